-- What becomes of a receipt that is open.
use Rattle.sms_centre_reports.specs.declared.open_reports.receipt_move.ReceiptMove.{ReceiptMove}
use Rattle.sms_centre_reports.specs.declared.open_reports.receipt_move.ReceiptMove.TheVariants.{Accepted, PutOff, Due}
use Rattle.sms_centre_rows.specs.reports.Receipts.{receipt_tried}
use Rattle.sms_centre_rows.specs.declared.waiting.progress.Progress.{Progress}
use Rattle.sms_centre_rows.specs.waiting.Trying.{due_at, finished}

abbrev pub moved : ReceiptMove → Progress → Progress
moved Accepted p = finished p
moved (PutOff moment) p = receipt_tried moment p
moved (Due moment) p = due_at moment p
