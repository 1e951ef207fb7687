use Rattle.std.proofs.Common.{length, ap, ◌∙◌}
use Rattle.sms_concat.specs.joiner.StepwiseJoining.{Taken}
use Rattle.sms_concat.proofs.joiner.Stepwise.{test_is_all}
use Rattle.sms_concat.proofs.joiner.Joiner.is_full.Goals as goal

pub returns-clause-each : goal.returns-clause-each
returns-clause-each c =
    test_is_all c.args.self.now (length c.parts.result.now) c.from.result c.parts.ensures.order (ap length c.parts.ensures.parts) (c.from.ensures ∙ ap (λ (t : Taken). t.total) c.self.view_is)
