use Rattle.std.proofs.Common.{ℕ, List, Option, OnOk, sym, ◌∙◌, ap, subst}
use Rattle.std.proofs.lemmas.Bool.{cond-false, cond-true}
use Rattle.smpp_pdu.specs.declared.status.CommandStatus.TheVariants.{ESME_RCANCELFAIL}
use Rattle.sms_centre_rows.specs.declared.messages.message.MessageRow.{MessageRow}
use Rattle.sms_intake.specs.SmppIntake.{is_empty}
use Rattle.sms_centre_spec.specs.Draft.{Draft, messages_in}
use Rattle.sms_centre_spec.specs.Requests.{cancelled, refused, to_cancel}
use Rattle.sms_centre_draft.specs.CentreDraft.{Represents}
use Rattle.sms_centre_events.proofs.FoundMessages.{asked_stored}
use Rattle.sms_centre_events.proofs.questions.cancel_by.Goals as goal

pub returns-then-is_empty : goal.returns-then-is_empty
returns-then-is_empty c = λ d represents.
    let m = c.args.cancel.now in
    let found = to_cancel c.args.account.now m (messages_in d.store) in
    subst (λ (x : Draft). Represents x c.refuse.new.draft)
    (sym (cond-true (is_empty m.message_id) (refused ESME_RCANCELFAIL d) (cancelled found d) (sym (c.if-is_empty.ensures ∙ ap (λ (t : List ℕ). is_empty t) c.as_slice.ensures))))
    (c.refuse.ensures d represents)

pub returns : goal.returns
returns c = λ d represents.
    let account = c.args.account.now in
    let m = c.args.cancel.now in
    let found = to_cancel account m (messages_in d.store) in
    let is = c.in_ok-found.ensures d represents in
    subst (λ (x : Draft). OnOk c.cancel_found.result (Represents x c.cancel_found.new.draft))
    (ap (λ (o : Option MessageRow). cancelled o d) is
    ∙ sym (cond-false (is_empty m.message_id) (refused ESME_RCANCELFAIL d) (cancelled found d) (sym (c.if-is_empty.ensures ∙ ap (λ (t : List ℕ). is_empty t) c.as_slice.ensures))))
    (c.cancel_found.ensures d represents (asked_stored account m d.store c.in_ok-found.found is))
