use Rattle.std.proofs.Common.{List, OnOk, ◌∙◌, subst}
use Rattle.sms_base.specs.Among.{Among}
use Rattle.sms_centre_rows.specs.declared.waiting.queued_part.QueuedPart.{QueuedPart}
use Rattle.sms_centre_spec.specs.Draft.{in_store}
use Rattle.sms_centre_spec.specs.Receiving.{all_due}
use Rattle.sms_centre_draft.specs.CentreDraft.{Represents}
use Rattle.sms_centre_draft.proofs.DueNow.{waiting_open}
use Rattle.sms_centre_draft.proofs.centre_draft.CentreDraft.due_now.Goals as goal

pub returns : goal.returns
returns c = λ d represents.
    let same = c.as_slice.ensures.value ∙ c.in_ok-all_queued.ensures d represents in
    subst (λ (ls : List QueuedPart). OnOk c.all_due.result (Represents (in_store (all_due ls d.store) d) c.all_due.new.self)) same
    (c.all_due.ensures d represents (λ l among. waiting_open c.args.handset d.store l represents.consistent.held (subst (λ (ls : List QueuedPart). Among l ls) same among)))
