-- What applications ask for: submit_sm, query_sm and cancel_sm (SMPP v3.4 4.4, 4.8, 4.9). Each has one answer.
use Rattle.std.specs.Prelude.{ℕ, zero, suc, ◌&&◌, ◌||◌, List, [], ◌∷◌, Bool, false, if◌then◌else◌, Option, Some, None, Result, Ok, Err}
use Rattle.sms_base.specs.declared.address.Address.{Address}
use Rattle.sms_base.specs.HandsetNumber.{names_handset}
use Rattle.std.specs.Str.{bytes_eq}
use Rattle.sms_base.specs.declared.final_state.FinalState.TheVariants.{Deleted}
use Rattle.smpp_pdu.specs.declared.address.SmeAddress.{SmeAddress}
use Rattle.smpp_pdu.specs.declared.cancel.CancelSm.{CancelSm}
use Rattle.smpp_pdu.specs.declared.message.Message.{Message}
use Rattle.smpp_pdu.specs.declared.query.QuerySm.{QuerySm}
use Rattle.smpp_pdu.specs.declared.status.CommandStatus.{CommandStatus}
use Rattle.smpp_pdu.specs.declared.status.CommandStatus.TheVariants.{ESME_RSYSERR, ESME_RINVMSGID, ESME_RCANCELFAIL, ESME_RMSGQFUL, ESME_RSUBMITFAIL}
use Rattle.sms_centre_rows.specs.declared.messages.message.MessageRow.{MessageRow}
use Rattle.sms_centre_rows.specs.messages.Messages.{is_pending, message_at}
use Rattle.sms_centre_rows.specs.messages.SplitReferences.{is_same_address}
use Rattle.sms_centre_rows.specs.reports.Receipts.{is_account}
use Rattle.sms_centre_spec.specs.declared.answer.CentreAnswer.{CentreAnswer}
use Rattle.sms_centre_spec.specs.declared.answer.CentreAnswer.TheVariants.{Submitted, Queried, Cancelled, Refused}
use Rattle.sms_intake.specs.declared.submission.CentreAccount.{CentreAccount}
use Rattle.sms_intake.specs.declared.submission.Submission.{Submission}
use Rattle.sms_centre_spec.specs.Numbers.{id_in}
use Rattle.sms_intake.specs.SmppIntake.{address_in, from_pdu, refusal_in, source_in, is_empty}
use Rattle.sms_centre_spec.specs.Shares.{unless_too_much}
use Rattle.sms_centre_spec.specs.Submitting.{accept, is_reference_taken}
use Rattle.sms_centre_spec.specs.Ends.{end}
use Rattle.sms_centre_spec.specs.Draft.{Core, Draft, Store, answer_with, draft_of, in_store, messages_in, rows_of}
use Rattle.sms_centre_spec.specs.MessageNumbers.{next_number}

abbrev pub refused : CommandStatus → Draft → Draft
refused status d = answer_with (Refused status) d

-- the account at a place
abbrev pub account_at : ℕ → List CentreAccount → Option CentreAccount
account_at place [] = None
account_at zero (a ∷ others) = Some a
account_at (suc place) (a ∷ others) = account_at place others

-- ---- submit_sm

-- ESME_RMSGQFUL: no number or no references are free, or the account would hold more than half of what is free beside others
abbrev pub accepted : ℕ → Option Store → Draft → Draft
accepted id None d = refused ESME_RMSGQFUL d
accepted id (Some s) d = answer_with (Submitted id) (in_store s d)

abbrev pub submission_received : Result Submission CommandStatus → Draft → Draft
submission_received (Err status) d = refused status d
submission_received (Ok s) d =
    if is_reference_taken s d.store then refused ESME_RSUBMITFAIL d
    else accepted (next_number (rows_of d.store)) (unless_too_much s (accept s d.store)) d

abbrev pub submit_by : Option CentreAccount → Message → Draft → Draft
submit_by None m d = refused ESME_RSYSERR d
submit_by (Some account) m d = submission_received (from_pdu account d.store.moment m) d

abbrev pub submit : ℕ → Message → Draft → Draft
submit place m d = submit_by (account_at place d.store.setup.accounts) m d

-- the status with which its octets refuse it, whatever the rows are
abbrev pub octets_refuse : Option CentreAccount → ℕ → Message → Option CommandStatus
octets_refuse None moment m = None
octets_refuse (Some account) moment m = refusal_in (from_pdu account moment m)

abbrev pub octets_refusal : ℕ → Message → Core → Option CommandStatus
octets_refusal place m c = octets_refuse (account_at place c.rows.setup.accounts) c.moment m

-- ---- the message that is asked for: of this account and source

abbrev pub is_source : Option Address → Address → Bool
is_source None own = false
is_source (Some source) own = is_same_address source own

abbrev pub is_from : Option Address → MessageRow → Bool
is_from source m = is_source source m.source

abbrev pub own_message : CentreAccount → Option Address → Option MessageRow → Option MessageRow
own_message account source None = None
own_message account source (Some m) = if is_account account.name m.originator && is_from source m then Some m else None

abbrev pub message_numbered : Option ℕ → List MessageRow → Option MessageRow
message_numbered None ms = None
message_numbered (Some id) ms = message_at id ms

-- ---- query_sm

abbrev pub queried : Option MessageRow → Draft → Draft
queried None d = refused ESME_RINVMSGID d
queried (Some m) d = answer_with (Queried m.id m.state m.done) d

abbrev pub query_by : Option CentreAccount → QuerySm → Draft → Draft
query_by None q d = refused ESME_RSYSERR d
query_by (Some account) q d =
    queried (own_message account (source_in account.address q.source) (message_numbered (id_in q.message_id) (messages_in d.store))) d

abbrev pub query : ℕ → QuerySm → Draft → Draft
query place q d = query_by (account_at place d.store.setup.accounts) q d

-- ---- cancel_sm: by its number alone, and not once it has ended

-- the address names the handset of that number
abbrev pub names_number : List ℕ → Option Address → Bool
names_number number None = false
names_number number (Some a) = names_handset a && bytes_eq a.digits number

-- The destination that is given is that handset, read as a submit_sm's is. An empty one is given of none (SMPP v3.4 4.9.1).
abbrev pub is_destination : SmeAddress → List ℕ → Bool
is_destination destination number = is_empty destination.addr || names_number number (address_in destination)

abbrev pub is_to : SmeAddress → MessageRow → Bool
is_to destination m = is_destination destination m.handset

abbrev pub only_to : SmeAddress → Option MessageRow → Option MessageRow
only_to destination None = None
only_to destination (Some m) = if is_to destination m then Some m else None

-- the message of that number, account and source, to that destination
abbrev pub to_cancel : CentreAccount → CancelSm → List MessageRow → Option MessageRow
to_cancel account c ms =
    only_to c.destination (own_message account (source_in account.address c.source) (message_numbered (id_in c.message_id) ms))

abbrev pub cancelled : Option MessageRow → Draft → Draft
cancelled None d = refused ESME_RINVMSGID d
cancelled (Some m) d =
    if is_pending m then answer_with Cancelled (in_store (end Deleted m d.store) d) else refused ESME_RCANCELFAIL d

abbrev pub cancel_by : Option CentreAccount → CancelSm → Draft → Draft
cancel_by None c d = refused ESME_RSYSERR d
cancel_by (Some account) c d =
    if is_empty c.message_id then refused ESME_RCANCELFAIL d
    else cancelled (to_cancel account c (messages_in d.store)) d

abbrev pub cancel : ℕ → CancelSm → Draft → Draft
cancel place c d = cancel_by (account_at place d.store.setup.accounts) c d

-- ---- a query_sm or a cancel_sm that is refused

-- the status of an answer that refuses
abbrev pub status_of : CentreAnswer → Option CommandStatus
status_of (Submitted id) = None
status_of (Queried id state moment) = None
status_of Cancelled = None
status_of (Refused status) = Some status

abbrev pub status_in : Option CentreAnswer → Option CommandStatus
status_in None = None
status_in (Some answer) = status_of answer

abbrev pub query_refusal : ℕ → QuerySm → Core → Option CommandStatus
query_refusal place q c = status_in (query place q (draft_of c)).answer

abbrev pub cancel_refusal : ℕ → CancelSm → Core → Option CommandStatus
cancel_refusal place x c = status_in (cancel place x (draft_of c)).answer
