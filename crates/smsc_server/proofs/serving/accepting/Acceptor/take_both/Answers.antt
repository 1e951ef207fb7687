use Rattle.smsc_server.proofs.serving.Entered.{seats_trans}
use Rattle.smsc_server.proofs.serving.accepting.Acceptor.take_both.Goals as goal

pub returns-clause-entered : goal.returns-clause-entered
returns-clause-entered g c = λ start h. c.take-second.ensures.entered start (c.take-first.ensures.entered start h)

pub returns-clause-seats : goal.returns-clause-seats
returns-clause-seats g c = seats_trans _ _ _ c.take-first.ensures.seats c.take-second.ensures.seats
