use Rattle.std.proofs.Common.{ℕ, ◌<◌, List, length, subst, sym, ◌∙◌, ap}
use Rattle.sms_rows.specs.index.First.{first_such}
use Rattle.sms_centre_reports.specs.open_reports.OpenReports.{receipts_at}
use Rattle.sms_centre_reports.specs.open_reports.Serving.{is_ready}
use Rattle.sms_centre_reports.proofs.sessions.AllSent.{none_first, one_first}
use Rattle.sms_centre_reports.proofs.sessions.bindings_draft.BindingsDraft.next_in.Goals as goal

pub returns-in-Some-clause-next : goal.returns-in-Some-clause-next
returns-in-Some-clause-next c = λ ms t tells.
    one_first c.args.first c.args.now c.args.self.now.sessions c.args.reports.now.current.accounts c.args.seat.now c.number.result c.in-Some.receipt (sym c.serves.ensures ∙ c.if-not-serves.false) (subst (λ (ids : List ℕ). length ids < 10) c.unanswered.ensures c.if-unanswered-ge-WINDOW.false) c.number.ensures
    (sym c.in-Some.is ∙ c.in_ok-receipt.ensures.next ms t tells ∙ ap (λ (name : List ℕ). first_such (is_ready c.args.first c.args.now c.args.self.now.sessions) (receipts_at name c.args.reports.now.current.accounts)) c.account.ensures)

pub returns-in-None-clause-next : goal.returns-in-None-clause-next
returns-in-None-clause-next c = λ ms t tells.
    none_first c.args.first c.args.now c.args.self.now.sessions c.args.reports.now.current.accounts c.args.seat.now
    (sym c.in-None.is ∙ c.in_ok-receipt.ensures.next ms t tells ∙ ap (λ (name : List ℕ). first_such (is_ready c.args.first c.args.now c.args.self.now.sessions) (receipts_at name c.args.reports.now.current.accounts)) c.account.ensures)
