use Rattle.std.proofs.Common.{ap, ◌∙◌}
use Rattle.sms_handset_draft.specs.Outcome.{Outcome}
use Rattle.sms_handset.proofs.machine.BeforeOrAfter.{is_before_or_after, nothing_changed}
use Rattle.sms_handset.proofs.machine.HandsetMachine.step.Goals as goal

pub returns-in-Err-clause-stop : goal.returns-in-Err-clause-stop
returns-in-Err-clause-stop g c = λ honest holds before left may.
    let planned = c.in_ok-planned.ensures.plan in
    is_before_or_after left _ _ _ planned.0 planned.1.0 (c.changes.ensures ∙ ap (λ (o : Outcome). o.changes) planned.1.1.outcome) (c.commit.ensures.stop _ honest holds before left may)

pub returns-in-Ok-clause-idle : goal.returns-in-Ok-clause-idle
returns-in-Ok-clause-idle g c = λ d is none.
    let planned = c.in_ok-planned.ensures.plan in
    c.commit.ensures.idle (nothing_changed _ _ planned.0 d planned.1.0 (c.changes.ensures ∙ ap (λ (o : Outcome). o.changes) planned.1.1.outcome) is none)

pub returns-in-Err-clause-idle : goal.returns-in-Err-clause-idle
returns-in-Err-clause-idle g c = λ d is none.
    let planned = c.in_ok-planned.ensures.plan in
    c.commit.ensures.idle (nothing_changed _ _ planned.0 d planned.1.0 (c.changes.ensures ∙ ap (λ (o : Outcome). o.changes) planned.1.1.outcome) is none)
