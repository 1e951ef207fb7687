-- SUBMIT-REPORT (3GPP TS 23.040 9.2.2.2a), without parameters: when a SUBMIT was taken, or refused and why.
use Rattle.std.specs.Prelude.{ℕ, List, Option, Some, None}
use Rattle.sms_base.specs.UtcClock.{stamp_of}
use Rattle.sms_tpdu.specs.Codes.{cause_octet}
use Rattle.sms_tpdu.specs.TpduGrammar.{no_parameters, submit_report_fields, indicator_of}
use Rattle.sms_tpdu.specs.declared.submit_report.SubmitReport.{SubmitReport}
use Rattle.sms_intake.specs.declared.refusal.SubmitRefusal.{SubmitRefusal}
use Rattle.sms_intake.specs.Refusals.{failure_of}

abbrev pub submit_report_of : Option ℕ → ℕ → SubmitReport
submit_report_of failure moment = record { failure_cause = failure; service_centre_time_stamp = moment; parameters = no_parameters }

-- the one written list
abbrev pub submit_report_written : SubmitReport → List ℕ
submit_report_written r = submit_report_fields 1 (indicator_of r.parameters) (stamp_of r.service_centre_time_stamp) r

abbrev pub accepting_report : ℕ → List ℕ
accepting_report moment = submit_report_written (submit_report_of None moment)

abbrev pub refusing_report : SubmitRefusal → ℕ → List ℕ
refusing_report refusal moment = submit_report_written (submit_report_of (Some (cause_octet (failure_of refusal))) moment)
