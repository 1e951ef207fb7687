use Rattle.std.proofs.Common.{◌≤◌, ℕ, [], sym, ◌∙◌, ap, arith}
use Rattle.sms_rows.specs.index.First.{first_such}
use Rattle.sms_centre_rows.specs.reports.Reports.{reports_of}
use Rattle.sms_centre_reports.specs.open_reports.OpenReports.{receipts_at}
use Rattle.sms_centre_reports.specs.open_reports.Serving.{is_ready}
use Rattle.sms_centre_reports.proofs.open_reports.Serving.{due_behind, none_ready, one_ready, passed_over, receipts_rise}
use Rattle.sms_centre_reports.proofs.sessions.bindings_draft.BindingsDraft.first_ready.Goals as goal

pub returns-in_default-clause-next : goal.returns-in_default-clause-next
returns-in_default-clause-next c = λ ms t tells.
    sym (c.passing.invariant.next ms t tells ∙ none_ready c.passing.from c.args.now c.args.self.now.sessions (receipts_at c.args.account.now c.args.reports.now.current.accounts) (sym c.in_default.ensures))

pub returns-then-not-is_unanswered-clause-behind : goal.returns-then-not-is_unanswered-clause-behind
returns-then-not-is_unanswered-clause-behind c =
    let l : c.passing.from ≤ c.in-Some.receipt.place = due_behind c.passing.from c.args.now c.in-Some.receipt (receipts_at c.args.account.now c.args.reports.now.current.accounts) (sym c.in-Some.ensures) in
    omega (arith, l, c.passing.invariant.behind)

pub returns-then-not-is_unanswered-clause-next : goal.returns-then-not-is_unanswered-clause-next
returns-then-not-is_unanswered-clause-next c = λ ms t tells.
    sym (c.passing.invariant.next ms t tells
    ∙ one_ready c.passing.from c.args.now c.args.self.now.sessions c.in-Some.receipt (receipts_at c.args.account.now c.args.reports.now.current.accounts) (sym c.in-Some.ensures) (sym c.is_unanswered.ensures ∙ c.if-not-is_unanswered.true))

pub passing-smaller : goal.passing-smaller
passing-smaller c =
    let l : c.passing.from ≤ c.in-Some.receipt.place = due_behind c.passing.from c.args.now c.in-Some.receipt (receipts_at c.args.account.now c.args.reports.now.current.accounts) (sym c.in-Some.ensures) in
    omega (arith, l, c.in_ok-from.ensures)

pub passing-preserved : goal.passing-preserved
passing-preserved c =
    let l : c.passing.from ≤ c.in-Some.receipt.place = due_behind c.passing.from c.args.now c.in-Some.receipt (receipts_at c.args.account.now c.args.reports.now.current.accounts) (sym c.in-Some.ensures) in
    record {
      behind = omega (arith, l, c.in_ok-from.ensures, c.passing.invariant.behind);
      next = λ ms t tells.
          c.passing.invariant.next ms t tells
          ∙ passed_over c.passing.from c.args.now c.args.self.now.sessions c.in-Some.receipt (receipts_at c.args.account.now c.args.reports.now.current.accounts)
          (receipts_rise 0 0 ms c.args.reports.now.current (reports_of t) tells.current [] c.args.account.now) (sym c.in-Some.ensures) (sym c.is_unanswered.ensures ∙ c.if-not-is_unanswered.false)
          ∙ ap (λ (n : ℕ). first_such (is_ready n c.args.now c.args.self.now.sessions) (receipts_at c.args.account.now c.args.reports.now.current.accounts)) (sym c.in_ok-from.ensures);
    }
