use Rattle.sqlite.specs.Held.{state}
use Rattle.sms_store.proofs.centre.LeftNow.{migrated_again}
use Rattle.sms_store.proofs.centre.closing.what_was_left_is_not_raised.Goals as goal

pub returns : goal.returns
returns g c image rows setup old holds is found migrated = migrated_again image rows old holds is found setup (state g.S.Store c.args.keep.now.conn) migrated
