use Rattle.std.proofs.Common.{sym}
use Rattle.std.proofs.lemmas.Bool.{cond-true, cond-false}
use Rattle.sms_centre_reports.specs.declared.open_reports.receipt_move.ReceiptMove.TheVariants.{Accepted, PutOff}
use Rattle.sms_centre_reports.specs.open_reports.ReceiptMoves.{moved}
use Rattle.sms_centre_reports.proofs.open_reports.ReceiptsMoved.{ends_so}
use Rattle.sms_centre_reports.proofs.open_reports.draft.OpenReportsDraft.end_receipt.Goals as goal

pub returns-in_ok-move_receipt : goal.returns-in_ok-move_receipt
returns-in_ok-move_receipt c = λ ms t tells awaited.
    ends_so ms c.move_receipt.new.self t c.args.is_accepted c.args.now c.args.account.now c.args.id Accepted
    (λ p. sym (cond-true c.args.is_accepted (moved Accepted p) (moved (PutOff c.args.now) p) c.if-is_accepted.true)) awaited
    (λ r there is account. c.in_ok-move_receipt.ensures ms t r tells there is account)

pub returns-in_ok-move_receipt-2 : goal.returns-in_ok-move_receipt-2
returns-in_ok-move_receipt-2 c = λ ms t tells awaited.
    ends_so ms c.move_receipt-else-is_accepted.new.self t c.args.is_accepted c.args.now c.args.account.now c.args.id (PutOff c.args.now)
    (λ p. sym (cond-false c.args.is_accepted (moved Accepted p) (moved (PutOff c.args.now) p) c.if-is_accepted.false)) awaited
    (λ r there is account. c.in_ok-move_receipt-2.ensures ms t r tells there is account)
