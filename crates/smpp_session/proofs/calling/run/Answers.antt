use Rattle.std.proofs.Common.{ap, ◌∙◌, List}
use Rattle.smpp_session.specs.declared.action.Action.{Action}
use Rattle.std.specs.Arc.{arc_value}
use Rattle.smpp_session.specs.Sessions.{SessionView}
use Rattle.smpp_session.proofs.Cuts.{however_cut}
use Rattle.smpp_session.proofs.calling.run.Goals as goal

pub returns-clause-however_cut : goal.returns-clause-however_cut
returns-clause-however_cut c = λ other same.
    c.in_ok-actions.ensures ∙ ap (λ (p : SessionView × List Action). p.1) (however_cut (arc_value c.args.accounts) c.args.calls.items other same)
