use Rattle.sqlite.specs.Held.{state}
use Rattle.sms_store.proofs.keeping.Closed.{found_again}
use Rattle.sms_store.proofs.keeping.closing.what_was_left_is_found.Goals as goal

pub returns : goal.returns
returns g c image rows setup old holds is found opened =
    found_again g.P.Kept.stores g.met.P.Kept.lawful image rows old holds is found setup (state g.S.Store c.args.keep.now.conn) opened
