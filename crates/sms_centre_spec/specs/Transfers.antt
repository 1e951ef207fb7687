-- How a transfer to a handset ends (3GPP TS 24.011 8.2.5.4), and what follows from it. An ending is that of the transfer that was
-- under way, and concerns what it was for. Nothing is looked up by the reference of an answer.
use Rattle.std.specs.Prelude.{ℕ, ◌==◌, ◌||◌, List, Bool, false, if◌then◌else◌, Option, Some, None}
use Rattle.sms_base.specs.declared.carried.Carried.{Carried}
use Rattle.sms_base.specs.declared.final_state.FinalState.TheVariants.{Delivered, Undeliverable}
use Rattle.sms_base.specs.declared.holder.Holder.{Holder}
use Rattle.sms_base.specs.declared.holder.Holder.TheVariants.{Part, Report, Entry, Memory}
use Rattle.sms_relay.specs.Cause.{number_of}
use Rattle.sms_link.specs.declared.ending.Ending.{Ending}
use Rattle.sms_link.specs.declared.ending.Ending.TheVariants.{Acknowledged, Refused as RefusedWith, Wrong, Lost}
use Rattle.sms_centre_rows.specs.declared.messages.message.MessageRow.{MessageRow}
use Rattle.sms_centre_rows.specs.declared.messages.part.PartRow.{PartRow}
use Rattle.sms_centre_rows.specs.messages.Messages.{all_done, message_at, part_at}
use Rattle.sms_centre_rows.specs.messages.OpenParts.{is_open_part}
use Rattle.sms_centre_rows.specs.declared.reports.report.ReportRow.{ReportRow}
use Rattle.sms_centre_rows.specs.reports.Reports.{is_open_status, report_of}
use Rattle.sms_centre_rows.specs.waiting.Links.{Links, filled, link_of, put_link}
use Rattle.sms_centre_rows.specs.waiting.Trying.{finished, tried}
use Rattle.sms_centre_spec.specs.declared.verdict.Verdict.{Verdict}
use Rattle.sms_centre_spec.specs.declared.verdict.Verdict.TheVariants.{Settled, HandsetFull, Again, Refused, Late}
use Rattle.sms_centre_spec.specs.Draft.{Draft, Store, messages_in, parts_in, reports_in, with_part_at, with_report_at}
use Rattle.sms_centre_spec.specs.Ends.{end}

-- ---- what an ending means

-- destination out of order, network out of order, temporary failure, congestion, resources unavailable
abbrev pub is_temporary : ℕ → Bool
is_temporary cause = (cause == 27) || ((cause == 38) || ((cause == 41) || ((cause == 42) || (cause == 47))))

-- 22: memory capacity exceeded
abbrev pub cause_verdict : ℕ → Verdict
cause_verdict cause = if cause == 22 then HandsetFull else (if is_temporary cause then Again else Refused)

abbrev pub verdict_of : Ending → Verdict
verdict_of Acknowledged = Settled
verdict_of (RefusedWith cause tpdu) = cause_verdict (number_of cause)
verdict_of Wrong = Again
verdict_of Lost = Again

-- ---- whether what the transfer was for still waits: later answers change nothing

abbrev pub is_open_part_at : Option PartRow → Store → Bool
is_open_part_at None s = false
is_open_part_at (Some p) s = is_open_part p (message_at p.id (messages_in s))

abbrev pub is_open_status_at : Option ReportRow → Bool
is_open_status_at None = false
is_open_status_at (Some r) = is_open_status r

abbrev pub is_open : Holder → Store → Bool
is_open (Part id number) s = is_open_part_at (part_at id number (parts_in s)) s
is_open (Report id) s = is_open_status_at (report_of id (reports_in s))
is_open (Entry n) s = false
is_open (Memory n) s = false

abbrev pub verdict_on : Holder → Ending → Store → Verdict
verdict_on holder ending s = if is_open holder s then verdict_of ending else Late

-- ---- a part

-- a message whose parts are all done is delivered
abbrev pub complete : MessageRow → Store → Store
complete m s = if all_done m.id (parts_in s) then end Delivered m s else s

abbrev pub part_ended : Verdict → PartRow → MessageRow → Store → Store
part_ended Settled p m s = complete m (with_part_at p (finished p.progress) s)
part_ended HandsetFull p m s = s
part_ended Again p m s = with_part_at p (tried s.moment p.progress) s
part_ended Refused p m s = end Undeliverable m s
part_ended Late p m s = s

abbrev pub part_ended_of : Verdict → PartRow → Option MessageRow → Store → Store
part_ended_of verdict p None s = s
part_ended_of verdict p (Some m) s = part_ended verdict p m s

abbrev pub part_ended_at : Verdict → Option PartRow → Store → Store
part_ended_at verdict None s = s
part_ended_at verdict (Some p) s = part_ended_of verdict p (message_at p.id (messages_in s)) s

-- ---- a status report

abbrev pub report_closed : ReportRow → Store → Store
report_closed r s = with_report_at r (finished r.progress) s

abbrev pub report_ended : Verdict → ReportRow → Store → Store
report_ended Settled r s = report_closed r s
report_ended HandsetFull r s = s
report_ended Again r s = with_report_at r (tried s.moment r.progress) s
report_ended Refused r s = report_closed r s
report_ended Late r s = s

abbrev pub report_ended_at : Verdict → Option ReportRow → Store → Store
report_ended_at verdict None s = s
report_ended_at verdict (Some r) s = report_ended verdict r s

-- ---- what the transfer was for

abbrev pub holder_ended : Verdict → Holder → Store → Store
holder_ended verdict (Part id number) s = part_ended_at verdict (part_at id number (parts_in s)) s
holder_ended verdict (Report id) s = report_ended_at verdict (report_of id (reports_in s)) s
holder_ended verdict (Entry n) s = s
holder_ended verdict (Memory n) s = s

-- nothing more is offered to a handset without memory until it says that it has, or its link is up again
abbrev pub link_ended : Verdict → List ℕ → Links → Links
link_ended Settled handset links = links
link_ended HandsetFull handset links = put_link (filled (link_of handset links.all)) links
link_ended Again handset links = links
link_ended Refused handset links = links
link_ended Late handset links = links

abbrev pub ended_with : Verdict → List ℕ → Holder → Draft → Draft
ended_with verdict handset holder d =
    record d { store = holder_ended verdict holder d.store; links = link_ended verdict handset d.links }

-- the transfer to the handset has ended
abbrev pub conclude : List ℕ → Carried → Ending → Draft → Draft
conclude handset transfer ending d = ended_with (verdict_on transfer.tag ending d.store) handset transfer.tag d
