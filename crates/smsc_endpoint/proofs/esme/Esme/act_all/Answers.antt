use Rattle.std.proofs.Common.{sym, ap, ◌∙◌}
use Rattle.smsc_endpoint.specs.EsmeView.{EsmeView}
use Rattle.smsc_endpoint.specs.EsmeCalls.{acted_next}
use Rattle.smsc_endpoint.proofs.Throttling.{acted_more}
use Rattle.smsc_endpoint.proofs.esme.Esme.act_all.Goals as goal

pub loop-action-preserved : goal.loop-action-preserved
loop-action-preserved c =
    c.in_ok-act_next.ensures
    ∙ (ap (λ (e : EsmeView). acted_next e c.in-Some.action) c.loop-action.invariant
    ∙ sym (acted_more c.args.self.now c.loop-action.yielded c.in-Some.action))
