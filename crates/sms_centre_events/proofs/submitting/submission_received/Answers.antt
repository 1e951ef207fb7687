-- submission_received
use Rattle.std.proofs.Common.{◌≡◌, Bool, true, false, OnOk, sym, ◌∙◌, subst}
use Rattle.std.specs.Prelude.{if◌then◌else◌}
use Rattle.smpp_pdu.specs.declared.status.CommandStatus.TheVariants.{ESME_RSUBMITFAIL}
use Rattle.sms_centre_spec.specs.Draft.{bars_in, messages_in, parts_in, rows_of}
use Rattle.sms_centre_spec.specs.MessageNumbers.{next_number}
use Rattle.sms_centre_spec.specs.Shares.{unless_too_much}
use Rattle.sms_centre_spec.specs.Requests.{accepted, refused}
use Rattle.sms_centre_spec.specs.Submitting.{accept, is_reference_taken}
use Rattle.sms_centre_draft.specs.CentreDraft.{Represents}
use Rattle.sms_centre_events.proofs.submitting.submission_received.Goals as goal

pub returns-then-is_reference_taken : goal.returns-then-is_reference_taken
returns-then-is_reference_taken c = λ d represents knows.
    let u = c.args.submission.now in
    let taken : is_reference_taken u d.store ≡ true = sym (c.is_reference_taken.ensures (bars_in d.store) (messages_in d.store) (parts_in d.store) knows.reference_index) ∙ c.if-is_reference_taken.true in
    subst (λ (b : Bool). Represents (if b then refused ESME_RSUBMITFAIL d else accepted (next_number (rows_of d.store)) (unless_too_much u (accept u d.store)) d) c.refuse.new.draft)
    (sym taken) (c.refuse.ensures d represents)

pub returns : goal.returns
returns c = λ d represents knows.
    let u = c.args.submission.now in
    let free : is_reference_taken u d.store ≡ false = sym (c.is_reference_taken.ensures (bars_in d.store) (messages_in d.store) (parts_in d.store) knows.reference_index) ∙ c.if-is_reference_taken.false in
    subst (λ (b : Bool). OnOk c.accepted.result (Represents (if b then refused ESME_RSUBMITFAIL d else accepted (next_number (rows_of d.store)) (unless_too_much u (accept u d.store)) d) c.accepted.new.draft))
    (sym free) (c.accepted.ensures d represents knows)
