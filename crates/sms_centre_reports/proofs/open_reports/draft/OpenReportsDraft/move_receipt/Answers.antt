use Rattle.sms_centre_rows.specs.reports.Reports.{reports_of}
use Rattle.sms_centre_reports.proofs.open_reports.ReceiptsMoved.{moves_so, never_missed}
use Rattle.sms_centre_reports.proofs.open_reports.draft.OpenReportsDraft.move_receipt.Goals as goal

pub returns-in_default : goal.returns-in_default
returns-in_default c = λ ms t r tells there is account. absurd (never_missed c.args.id r (reports_of t) (c.in_default.ensures ms t tells) there is)

pub returns : goal.returns
returns c = λ ms t r tells there is account.
    moves_so ms c.amend_receipt.new.self t r c.args.becomes c.progress-progress.result c.in-Some.entry c.args.account.now c.args.id c.progress-progress.ensures (c.in-Some.ensures ms t tells) there is account
    (λ s own same one mine. c.in_ok-amend_receipt.ensures ms t s tells own same one mine)
