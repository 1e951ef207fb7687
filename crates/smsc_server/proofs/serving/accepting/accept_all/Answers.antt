use Rattle.smsc_server.proofs.serving.Entered.{seats_trans}
use Rattle.smsc_server.proofs.serving.accepting.accept_all.Goals as goal

pub returns-clause-entered : goal.returns-clause-entered
returns-clause-entered g c = λ start h. c.close.ensures.entered start (c.accept_so_many.ensures.entered start h)

pub returns-clause-seats : goal.returns-clause-seats
returns-clause-seats g c = seats_trans _ _ _ c.accept_so_many.ensures.seats c.close.ensures.seats
