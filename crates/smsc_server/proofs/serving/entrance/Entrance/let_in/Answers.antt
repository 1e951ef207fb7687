use Rattle.std.proofs.Common.{refl}
use Rattle.smsc_server.proofs.serving.Entered.{all_given, entered_same, seats_same}
use Rattle.smsc_server.proofs.serving.entrance.Entrance.let_in.Goals as goal

pub returns-then-self-clause-seats : goal.returns-then-self-clause-seats
returns-then-self-clause-seats g c = seats_same _

pub returns-in_err-arrival-clause-entered : goal.returns-in_err-arrival-clause-entered
returns-in_err-arrival-clause-entered g c = λ start h. entered_same g.L.Door.came start _ _ h c.in_err-arrival.ensures.came refl refl

pub returns-in_err-arrival-clause-seats : goal.returns-in_err-arrival-clause-seats
returns-in_err-arrival-clause-seats g c = seats_same _

pub returns-clause-entered : goal.returns-clause-entered
returns-clause-entered g c = λ start h. c.give.ensures.entered start _ (all_given g.L.Door.came start c.args.self.now h c.if-self.false) c.in_ok-arrival.ensures.came

pub returns-clause-seats : goal.returns-clause-seats
returns-clause-seats g c = c.give.ensures.seats
