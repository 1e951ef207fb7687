use Rattle.std.proofs.Common.{◌≡◌, ◌++◌, drop}
use Rattle.sms_script.specs.report.ReportText.{lines, receipt_line}
use Rattle.sms_script.proofs.report.put_receipts.Given as goal

abbrev pub invariant-loop-receipt : goal.invariant-loop-receipt
invariant-loop-receipt l = l.out ++ lines receipt_line (drop l.receipt-index l.receipts) ≡ l.fn.out ++ lines receipt_line l.receipts
