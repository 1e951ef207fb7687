use Rattle.std.proofs.Common.{List, ◌++◌, sym, ◌∙◌, ap, arith}
use Rattle.std.specs.Prelude.{slice_get}
use Rattle.std.proofs.lemmas.List.{take_all}
use Rattle.sms_centre_reports.specs.report_log.Reporting.{receipt_lines}
use Rattle.sms_centre_rows.specs.declared.report_lines.ReceiptRow.{ReceiptRow}
use Rattle.sms_centre_rows.specs.declared.reports.report.ReportRow.{ReportRow}
use Rattle.sms_centre.specs.state.MessageLines.{receipt_at}
use Rattle.sms_centre.proofs.state.Listed.{receipt_next}
use Rattle.sms_centre.proofs.state.reporting.receipt_lines.Goals as goal

pub loop-place-preserved : goal.loop-place-preserved
loop-place-preserved c = λ ms ps rows h held.
    let i = c.loop-place.place in
    c.in_ok-push_report.ensures ms ps rows h held
    ∙ ap (λ (ls : List ReceiptRow). ls ++ receipt_at ms (slice_get rows i)) (c.loop-place.invariant ms ps rows h held)
    ∙ sym (receipt_next ms i rows)

pub returns : goal.returns
returns c = λ ms ps rows h held.
    let count = c.len-place-end.ensures rows held in
    c.loop-place.invariant ms ps rows h held ∙ ap (λ (k : List ReportRow). receipt_lines ms k) (take_all c.loop-place.place rows (omega (arith, count, c.loop-place-test.false)))
