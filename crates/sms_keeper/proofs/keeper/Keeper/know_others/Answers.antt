use Rattle.std.proofs.Common.{refl}
use Rattle.sms_keeper.proofs.keeper.Keeper.know_others.Goals as goal

pub returns-clause-keeper : goal.returns-clause-keeper
returns-clause-keeper g c = let h = c.know_others.ensures.queues in record { hub = h.queues; ran = h.ran; given = h.given; last = refl }
