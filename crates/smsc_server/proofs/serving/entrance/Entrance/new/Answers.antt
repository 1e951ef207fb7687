use Rattle.std.proofs.Common.{refl}
use Rattle.smsc_server.proofs.serving.Entered.{entered_none, seats_same}
use Rattle.smsc_server.proofs.serving.entrance.Entrance.new.Goals as goal

pub returns-clause-entered : goal.returns-clause-entered
returns-clause-entered g c = entered_none g.L.Door.came _ _ _ refl refl refl c.requires

pub returns-clause-seats : goal.returns-clause-seats
returns-clause-seats g c = seats_same _
