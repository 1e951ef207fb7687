use Rattle.std.proofs.Common.{refl}
use Rattle.smsc_server.proofs.serving.Entered.{entered_lost, entered_more}
use Rattle.smsc_server.proofs.serving.entrance.Entrance.give.Goals as goal

pub returns-in-Ok-clause-entered : goal.returns-in-Ok-clause-entered
returns-in-Ok-clause-entered g c = λ start middle h k. entered_more g.L.Door.came start middle _ _ _ h k c.in-Ok.ensures.given

pub returns-in-Err-clause-entered : goal.returns-in-Err-clause-entered
returns-in-Err-clause-entered g c = λ start middle h k. entered_lost g.L.Door.came start middle _ _ _ h k c.in-Err.ensures.given.1 refl

pub returns-in-Ok-clause-seats : goal.returns-in-Ok-clause-seats
returns-in-Ok-clause-seats g c = let h = c.give.ensures in record { same = h.same; made = h.made; settled = h.settled; returned = h.returned }

pub returns-in-Err-clause-seats : goal.returns-in-Err-clause-seats
returns-in-Err-clause-seats g c = let h = c.give.ensures in record { same = h.same; made = h.made; settled = h.settled; returned = h.returned }
