use Rattle.std.proofs.Common.{sym, ◌∙◌}
use Rattle.smpp_session.proofs.Stages.{delivered_not}
use Rattle.smpp_session.proofs.turn.SessionStep.delivered.Goals as goal

pub returns-else-take : goal.returns-else-take
returns-else-take c = delivered_not c.args.number c.args.accepted c.args.self.now c.take.new.self (sym c.take.ensures.found ∙ c.if-take.false) (c.take.ensures.unchanged c.if-take.false)
