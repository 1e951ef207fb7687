use Rattle.std.proofs.Common.{[], subst, sym, ◌≤◌, ℕ, arith}
use Rattle.sms_centre_reports.specs.open_reports.OpenReports.{receipts_at}
use Rattle.sms_centre_reports.proofs.open_reports.PutOff.{IsOnTheWay, behind_falls_due, way_begins, way_ends, way_on}
use Rattle.sms_centre_reports.proofs.open_reports.draft.OpenReportsDraft.hasten_receipts.Goals as goal

pub coming-init : goal.coming-init
coming-init c = λ ms t tells. way_begins c.args.now c.args.account.now ms c.args.self.now t tells

pub returns-in_default : goal.returns-in_default
returns-in_default c = λ ms t tells. way_ends c.args.now c.args.account.now ms c.coming.first c.coming.self t (c.coming.invariant ms t tells) (sym c.in_default.ensures)

pub coming-smaller : goal.coming-smaller
coming-smaller c =
    let l : c.coming.first ≤ c.in-Some.receipt.place = behind_falls_due c.args.now c.args.account.now [] c.coming.first c.in-Some.receipt (receipts_at c.args.account.now c.coming.self.current.accounts) (sym c.in-Some.ensures) in
    omega (arith, l, c.in_ok-first.ensures)

pub coming-preserved : goal.coming-preserved
coming-preserved c = λ ms t tells.
    subst (λ (n : ℕ). IsOnTheWay c.args.now c.args.account.now ms n c.move_receipt.new.self t) (sym c.in_ok-first.ensures)
    (way_on c.args.now c.args.account.now ms c.coming.first c.coming.self c.move_receipt.new.self t c.in-Some.receipt (c.coming.invariant ms t tells) (sym c.in-Some.ensures)
    (λ u r tu there is mine. c.in_ok-move_receipt.ensures ms u r tu there is mine))
