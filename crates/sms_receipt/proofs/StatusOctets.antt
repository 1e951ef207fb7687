-- The written list of a status report.
use Rattle.std.proofs.Common.{◌≡◌, ◌∙◌, ap, subst, ℕ, List, Result, Ok, Err}
use Rattle.std.specs.Prelude.{IfOk}
use Rattle.std.proofs.lemmas.List.{append-nil}
use Rattle.sms_base.specs.UtcClock.{stamp_of}
use Rattle.sms_base.proofs.UtcClocks.{written_is_stamp}
use Rattle.sms_tpdu.specs.AddressGrammar.{address_field}
use Rattle.sms_tpdu.specs.TpduGrammar.{IsWrittenStatusReport, status_report_head, status_report_fields}
use Rattle.sms_tpdu.specs.declared.status_report.StatusReport.{StatusReport}
use Rattle.sms_receipt.specs.declared.final_message.Final.{Final}
use Rattle.sms_receipt.specs.StatusReports.{status_report_of, status_octets}

pub written_is : (end : Final) (octets : List ℕ) → IsWrittenStatusReport octets (status_report_of end) → octets ≡ status_octets end
written_is end octets h =
    let r = status_report_of end in
    let first = written_is_stamp h.0 r.service_centre_time_stamp h.3 in
    let second = written_is_stamp h.1 r.discharge_time h.4 in
    let fields = λ (a b : List ℕ). status_report_fields (status_report_head r) (address_field r.recipient_address) a b r in
    h.6
    ∙ append-nil (fields h.0 h.1)
    ∙ ap (λ (a : List ℕ). fields a h.1) first
    ∙ ap (λ (b : List ℕ). fields (stamp_of r.service_centre_time_stamp) b) second

pub if_written : {E : Type 0} (end : Final) (report : StatusReport) (r : Result (List ℕ) E) → report ≡ status_report_of end → IfOk r (λ octets. IsWrittenStatusReport octets report) → IfOk r (λ octets. octets ≡ status_octets end)
if_written end report (Ok octets) e h = written_is end octets (subst (λ (s : StatusReport). IsWrittenStatusReport octets s) e h)
if_written end report (Err error) e h = tt
