-- The log follows the rows of reports.
use Rattle.std.proofs.Common.{◌≡◌, ℕ, List, [], ◌∷◌, map, Bool, true, false, refl, ◌∙◌, ap, ap₂}
use Rattle.std.specs.Prelude.{◌==◌, nat_lt, if◌then◌else◌}
use Rattle.sms_rows.specs.table.Table.{AllAbove, Rises, insert, put, without}
use Rattle.sms_centre_rows.specs.declared.reports.report.ReportRow.{ReportRow}
use Rattle.sms_centre_rows.specs.reports.Reports.{report_key, report_reaching}
use Rattle.sms_centre_rows.specs.declared.waiting.progress.Progress.{Progress}
use Rattle.sms_centre_rows.specs.waiting.Revisions.{amended}
use Rattle.sms_centre_reports.specs.declared.report_log.log.LoggedReport.{LoggedReport}
use Rattle.sms_centre_reports.specs.report_log.ReportLog.{made_key, made_report}

made_if : (b : Bool) (xs ys : List ReportRow) → map made_report (if b then xs else ys) ≡ (if b then map made_report xs else map made_report ys)
made_if true xs ys = refl
made_if false xs ys = refl

pub made_without : (n : ℕ) (rows : List ReportRow) → map made_report (without report_key n rows) ≡ without made_key n (map made_report rows)
made_without n [] = refl
made_without n (r ∷ rs) =
    made_if (report_key r == n) (without report_key n rs) (r ∷ without report_key n rs)
    ∙ ap₂ (λ (xs ys : List LoggedReport). if report_key r == n then xs else ys) (made_without n rs) (ap (λ (xs : List LoggedReport). made_report r ∷ xs) (made_without n rs))

made_insert : (x : ReportRow) (rows : List ReportRow) → map made_report (insert report_key x rows) ≡ insert made_key (made_report x) (map made_report rows)
made_insert x [] = refl
made_insert x (r ∷ rs) =
    made_if (nat_lt (report_key x) (report_key r)) (x ∷ r ∷ rs) (r ∷ insert report_key x rs)
    ∙ ap (λ (ys : List LoggedReport). if nat_lt (report_key x) (report_key r) then made_report x ∷ made_report r ∷ map made_report rs else ys) (ap (λ (xs : List LoggedReport). made_report r ∷ xs) (made_insert x rs))

pub made_put : (x : ReportRow) (rows : List ReportRow) → map made_report (put report_key x rows) ≡ put made_key (made_report x) (map made_report rows)
made_put x rows = made_insert x (without report_key (report_key x) rows) ∙ ap (λ (xs : List LoggedReport). insert made_key (made_report x) xs) (made_without (report_key x) rows)

reaches : (b : Bool) (q : Progress) (r : ReportRow) → made_report (if b then report_reaching q r else r) ≡ made_report r
reaches true q r = refl
reaches false q r = refl

-- how far a report is doesn't stand there
pub made_amended : (n : ℕ) (q : Progress) (rows : List ReportRow) → map made_report (amended report_key report_reaching n q rows) ≡ map made_report rows
made_amended n q [] = refl
made_amended n q (r ∷ rs) = ap₂ (λ (x : LoggedReport) (xs : List LoggedReport). x ∷ xs) (reaches (report_key r == n) q r) (made_amended n q rs)

above_made : (n : ℕ) (rows : List ReportRow) → AllAbove report_key n rows → AllAbove made_key n (map made_report rows)
above_made n [] above = tt
above_made n (r ∷ rs) above = (above.0, above_made n rs above.1)

pub rises_made : (rows : List ReportRow) → Rises report_key rows → Rises made_key (map made_report rows)
rises_made [] rises = tt
rises_made (r ∷ rs) rises = (above_made (report_key r) rs rises.0, rises_made rs rises.1)
