use Rattle.std.proofs.Common.{List, OnOk, ◌∙◌, subst}
use Rattle.sms_base.specs.Among.{Among}
use Rattle.sms_centre_rows.specs.declared.waiting.queued_part.QueuedPart.{QueuedPart}
use Rattle.sms_centre_spec.specs.Draft.{in_store, waiting_in}
use Rattle.sms_centre_spec.specs.Receiving.{all_due}
use Rattle.sms_centre_spec.proofs.OrdersDone.{among_parts}
use Rattle.sms_centre_draft.specs.CentreDraft.{Represents}
use Rattle.sms_centre_draft.proofs.DueNow.{waiting_open}
use Rattle.sms_centre_draft.proofs.centre_draft.CentreDraft.message_due.Goals as goal

pub returns : goal.returns
returns c = λ d represents there.
    let m = c.args.message.now in
    let same = c.as_slice.ensures.value ∙ c.in_ok-parts.ensures d represents there in
    subst (λ (ls : List QueuedPart). OnOk c.all_due.result (Represents (in_store (all_due ls d.store) d) c.all_due.new.self)) same
    (c.all_due.ensures d represents
    (λ l among. waiting_open m.handset d.store l represents.consistent.held (among_parts m.id l (waiting_in m.handset d.store) (subst (λ (ls : List QueuedPart). Among l ls) same among))))
