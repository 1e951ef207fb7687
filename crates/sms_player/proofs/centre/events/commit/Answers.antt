use Rattle.std.proofs.Common.{refl}
use Rattle.sms_store_memory.specs.centre.RowsInKeep.{rows_in}
use Rattle.sms_player.proofs.centre.events.commit.Goals as goal

pub returns-in-Ok-clause-ok : goal.returns-in-Ok-clause-ok
returns-in-Ok-clause-ok c = (c.in-Ok.ensures.outcome (rows_in c.args.keep.now) tt refl).1
