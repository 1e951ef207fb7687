-- The written list of a SUBMIT-REPORT.
use Rattle.std.proofs.Common.{◌≡◌, ◌∙◌, ap, ℕ, List, Result, Ok, Err}
use Rattle.std.specs.Prelude.{IfOk}
use Rattle.sms_base.proofs.UtcClocks.{written_is_stamp}
use Rattle.sms_tpdu.specs.TpduGrammar.{IsWrittenSubmitReport, submit_report_fields, indicator_of}
use Rattle.sms_tpdu.specs.declared.submit_report.SubmitReport.{SubmitReport}
use Rattle.sms_intake.specs.SubmitReports.{submit_report_written}

written_is : (r : SubmitReport) (octets : List ℕ) → IsWrittenSubmitReport octets r → octets ≡ submit_report_written r
written_is r octets h =
    h.3 ∙ ap (λ (stamp : List ℕ). submit_report_fields 1 (indicator_of r.parameters) stamp r) (written_is_stamp h.0 r.service_centre_time_stamp h.1)

pub if_written : {E : Type 0} (report : SubmitReport) (r : Result (List ℕ) E) → IfOk r (λ octets. IsWrittenSubmitReport octets report) → IfOk r (λ octets. octets ≡ submit_report_written report)
if_written report (Ok octets) h = written_is report octets h
if_written report (Err error) h = tt
