-- A unit that a handset sends up and that opens a transaction (3GPP TS 24.011 6).
use Rattle.std.specs.Prelude.{ℕ, ◌==◌, ◌&&◌, ◌||◌, List, [], ◌∷◌, Bool, false, if◌then◌else◌, Option, Some, None, Result, Ok, Err}
use Rattle.std.specs.Str.{bytes_eq}
use Rattle.sms_base.specs.declared.carried.Kind.{Kind}
use Rattle.sms_base.specs.declared.carried.Kind.TheVariants.{Ack, Error}
use Rattle.sms_base.specs.declared.holder.Holder.{Holder}
use Rattle.sms_link.specs.LinkTurn.{replied}
use Rattle.sms_relay.specs.declared.cause.RpCause.{RpCause}
use Rattle.sms_relay.specs.declared.fault.RelayFault.{RelayFault}
use Rattle.sms_relay.specs.Rejecting.{fault_cause, reference_octet}
use Rattle.sms_relay.specs.declared.frame.Rp.{Rp}
use Rattle.sms_relay.specs.declared.frame.Rp.TheVariants.{DataUnit, AckUnit, ErrorUnit, Smma}
use Rattle.sms_relay.specs.RelayGrammar.{ack_down, error_down}
use Rattle.sms_tpdu.specs.declared.carrier.Carrier.TheVariants.{InData}
use Rattle.sms_tpdu.specs.TpduReading.{up_at as tpdu_up_at}
use Rattle.sms_centre_rows.specs.declared.messages.message.MessageRow.{MessageRow}
use Rattle.sms_base.specs.declared.originator.Originator.{Originator}
use Rattle.sms_base.specs.declared.originator.Originator.TheVariants.{Application, Handset}
use Rattle.sms_centre_rows.specs.declared.messages.part.PartRow.{PartRow}
use Rattle.sms_centre_rows.specs.messages.Messages.{is_pending, part_at}
use Rattle.sms_centre_rows.specs.declared.reports.report.ReportRow.{ReportRow}
use Rattle.sms_centre_rows.specs.reports.Reports.{report_of}
use Rattle.sms_centre_rows.specs.declared.waiting.handset_link.HandsetLink.{HandsetLink}
use Rattle.sms_centre_rows.specs.declared.waiting.queued_part.QueuedPart.{QueuedPart}
use Rattle.sms_centre_rows.specs.waiting.Links.{Links, emptied, link_of, put_link, turn_link}
use Rattle.sms_centre_rows.specs.waiting.Trying.{due_at}
use Rattle.sms_intake.specs.declared.refusal.SubmitRefusal.{SubmitRefusal}
use Rattle.sms_intake.specs.declared.refusal.SubmitRefusal.TheVariants.{Duplicate, ReferenceTaken, Congested}
use Rattle.sms_intake.specs.declared.submission.Submission.{Submission}
use Rattle.sms_intake.specs.HandsetIntake.{from_read}
use Rattle.sms_intake.specs.Refusals.{cause_of}
use Rattle.sms_intake.specs.SubmitReports.{accepting_report, refusing_report}
use Rattle.sms_centre_spec.specs.Submitting.{accept, is_reference_taken}
use Rattle.sms_centre_spec.specs.Draft.{Draft, Store, messages_in, on_links, parts_in, reports_in, waiting_in, with_part_at, with_report_at}

-- ---- due now: all that waits for the handset

abbrev pub part_due : Option PartRow → Store → Store
part_due None s = s
part_due (Some p) s = with_part_at p (due_at s.moment p.progress) s

abbrev pub report_due : Option ReportRow → Store → Store
report_due None s = s
report_due (Some r) s = with_report_at r (due_at s.moment r.progress) s

-- number 0 is a status report
abbrev pub queued_due : QueuedPart → Store → Store
queued_due l s = if l.number == 0 then report_due (report_of l.id (reports_in s)) s else part_due (part_at l.id l.number (parts_in s)) s

abbrev pub all_due : List QueuedPart → Store → Store
all_due [] s = s
all_due (l ∷ ls) s = all_due ls (queued_due l s)

abbrev pub due_now : List ℕ → Store → Store
due_now handset s = all_due (waiting_in handset s) s

-- ---- SUBMIT

-- TP-RD: a message of the same originator, TP-MR and destination is pending
abbrev pub is_of_reference : Originator → Originator → Bool
is_of_reference (Application a) (Application b) = false
is_of_reference (Application a) (Handset n) = false
is_of_reference (Handset m) (Application b) = false
is_of_reference (Handset m) (Handset n) = m == n

abbrev pub is_double_of : Submission → MessageRow → Bool
is_double_of s m =
    is_pending m && (is_of_reference s.originator m.originator && (bytes_eq s.source.digits m.source.digits && bytes_eq s.handset m.handset))

abbrev pub is_pending_double : Submission → List MessageRow → Bool
is_pending_double s [] = false
is_pending_double s (m ∷ ms) = is_double_of s m || is_pending_double s ms

abbrev pub is_duplicate : Submission → Store → Bool
is_duplicate submission s = submission.rejects_duplicates && is_pending_double submission (messages_in s)

-- ---- answers

-- in the transaction that the handset began
abbrev pub reply_on : HandsetLink → ℕ → Kind → ℕ → Holder → List ℕ → Links → Links
reply_on link moment kind reference tag unit links = turn_link link (replied moment kind reference tag unit link.near_end) links

abbrev pub reply : List ℕ → Kind → ℕ → Holder → List ℕ → Draft → Draft
reply handset kind reference tag unit d =
    on_links (reply_on (link_of handset d.links.all) d.store.moment kind reference tag unit d.links) d

-- RP-ERROR with a SUBMIT-REPORT
abbrev pub refuse : List ℕ → ℕ → Holder → SubmitRefusal → Draft → Draft
refuse handset reference tag refusal d =
    reply handset Error reference tag (error_down reference (cause_of refusal) (Some (refusing_report refusal d.store.moment))) d

-- RP-ACK with a SUBMIT-REPORT
abbrev pub confirm : List ℕ → ℕ → Holder → Draft → Draft
confirm handset reference tag d = reply handset Ack reference tag (ack_down reference (Some (accepting_report d.store.moment))) d

abbrev pub submit_accepted : List ℕ → ℕ → Holder → Option Store → Draft → Draft
submit_accepted handset reference tag None d = refuse handset reference tag Congested d
submit_accepted handset reference tag (Some s) d = confirm handset reference tag (record d { store = s })

abbrev pub submit_received : List ℕ → ℕ → Holder → Result Submission SubmitRefusal → Draft → Draft
submit_received handset reference tag (Err refusal) d = refuse handset reference tag refusal d
submit_received handset reference tag (Ok s) d =
    if is_duplicate s d.store then refuse handset reference tag Duplicate d
    else (if is_reference_taken s d.store then refuse handset reference tag ReferenceTaken d
    else submit_accepted handset reference tag (accept s d.store) d)

abbrev pub data_received : List ℕ → ℕ → Holder → List ℕ → Draft → Draft
data_received handset reference tag tpdu d =
    submit_received handset reference tag (from_read d.store.setup.accounts handset d.store.moment (tpdu_up_at InData tpdu)) d

-- ---- RP-SMMA (3GPP TS 24.011 7.3.2): the handset has memory, and all that waits for it is due now

abbrev pub empty_link : List ℕ → Links → Links
empty_link handset links = put_link (emptied (link_of handset links.all)) links

abbrev pub has_memory : List ℕ → Draft → Draft
has_memory handset d = record d { store = due_now handset d.store; links = empty_link handset d.links }

abbrev pub memory_available : List ℕ → ℕ → Holder → Draft → Draft
memory_available handset reference tag d = has_memory handset (reply handset Ack reference tag (ack_down reference None) d)

-- ---- a unit that can't be read: the cause is another for a type that does not exist

-- ---- a unit that cannot be read

abbrev pub reject : List ℕ → ℕ → Holder → RpCause → Draft → Draft
reject handset reference tag cause d = reply handset Error reference tag (error_down reference cause None) d

-- other units are dropped
abbrev pub unit_received : List ℕ → Holder → List ℕ → Result Rp RelayFault → Draft → Draft
unit_received handset tag unit (Ok (DataUnit reference centre tpdu)) d = data_received handset reference tag tpdu d
unit_received handset tag unit (Ok (AckUnit reference tpdu)) d = d
unit_received handset tag unit (Ok (ErrorUnit reference cause tpdu)) d = d
unit_received handset tag unit (Ok (Smma reference)) d = memory_available handset reference tag d
unit_received handset tag unit (Err fault) d = reject handset (reference_octet unit) tag (fault_cause fault) d
