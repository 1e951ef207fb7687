use Rattle.std.proofs.Common.{Bool, sym, ◌∙◌, ap}
use Rattle.std.specs.Prelude.{◌&&◌}
use Rattle.sms_centre_spec.specs.Receiving.{is_pending_double}
use Rattle.sms_centre_draft.proofs.Verdicts.{no_double}
use Rattle.sms_centre_events.proofs.Doubles.{double_pending}
use Rattle.sms_centre_events.proofs.asking.is_duplicate.Goals as goal

pub returns-in-Handset : goal.returns-in-Handset
returns-in-Handset c = λ bs ms ps h.
    let u = c.args.submission.now in
    c.has_pending.ensures bs ms ps h ∙ sym (double_pending u c.in-Handset.message_reference ms c.in-Handset.is)
    ∙ sym (ap (λ (b : Bool). b && is_pending_double u ms) c.if-not-submission.false)

pub returns-in-Application : goal.returns-in-Application
returns-in-Application c = λ bs ms ps h.
    let u = c.args.submission.now in
    sym (ap (λ (b : Bool). b && is_pending_double u ms) c.if-not-submission.false ∙ no_double u _ ms c.in-Application.is)
