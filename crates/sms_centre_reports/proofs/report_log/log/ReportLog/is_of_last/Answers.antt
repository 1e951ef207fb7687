use Rattle.std.proofs.Common.{◌≡◌, ℕ, ◌-◌, List, length, Some, sym, ◌∙◌, ap, arith}
use Rattle.std.specs.List.{slice_get}
use Rattle.std.specs.Prelude.{◌==◌}
use Rattle.std.proofs.lemmas.Option.{slice_get_within}
use Rattle.sms_centre_reports.specs.declared.report_log.log.LoggedReport.{LoggedReport}
use Rattle.sms_centre_reports.specs.report_log.ReportLog.{LogInMemory, is_of_last}
use Rattle.sms_centre_reports.proofs.report_log.Finding.{last_of, none_last}
use Rattle.sms_centre_reports.proofs.report_log.log.ReportLog.is_of_last.Goals as goal

pub returns-in-Some : goal.returns-in-Some
returns-in-Some c =
    let rs = c.self.inside.reports.rows in
    let at : slice_get rs (length rs - 1) ≡ Some c.in-Some.last.now = sym c.in-Some.ensures in
    let l = slice_get_within rs (length rs - 1) c.in-Some.last.now at in
    ap (λ (n : ℕ). n == c.number-in-Some.result) c.number.ensures.value
    ∙ ap (λ (n : ℕ). c.in-Some.last.now.id == n) c.number-in-Some.ensures.value
    ∙ last_of c.args.id (length rs - 1) rs c.in-Some.last.now (omega (arith, l)) at
    ∙ ap (λ (x : List LoggedReport). is_of_last c.args.id x) (ap (λ (l : LogInMemory). l.reports.rows) c.self.view_is)

pub returns-in-None : goal.returns-in-None
returns-in-None c =
    none_last c.args.id c.self.inside.reports.rows (sym c.in-None.ensures)
    ∙ ap (λ (x : List LoggedReport). is_of_last c.args.id x) (ap (λ (l : LogInMemory). l.reports.rows) c.self.view_is)
