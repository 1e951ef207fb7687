-- Reports that go in one pass.
use Rattle.std.proofs.lemmas.Bool.{false≢true}
use Rattle.std.proofs.Common.{◌≡◌, List, [], ◌∷◌, map, refl, sym, ◌∙◌, ap}
use Rattle.sms_rows.specs.table.Table.{without, without_all}
use Rattle.sms_centre_rows.specs.declared.reports.report.ReportRow.{ReportRow}
use Rattle.sms_centre_rows.specs.declared.waiting.revision.Revision.{Revision}
use Rattle.sms_centre_rows.specs.declared.waiting.revision.Revision.TheVariants.{Put, Amend, Remove}
use Rattle.sms_centre_rows.specs.reports.Reports.{report_key, report_reaching}
use Rattle.sms_centre_rows.specs.waiting.Revisions.{OnlyRemove, all_revised, revision_key}
use Rattle.sms_centre_reports.specs.declared.report_log.log.LoggedReport.{LoggedReport}
use Rattle.sms_centre_reports.specs.report_log.ReportLog.{made_key, made_report}
use Rattle.sms_centre_reports.proofs.report_log.Registering.{made_without}

pub passed : (changes : List (Revision ReportRow)) (rows : List ReportRow) → OnlyRemove changes
    → without_all made_key (map (λ (c : Revision ReportRow). revision_key report_key c) changes) (map made_report rows) ≡ map made_report (all_revised report_key report_reaching changes rows)
passed [] rows are = refl
passed (Put x ∷ changes) rows are = absurd (false≢true are)
passed (Amend n progress ∷ changes) rows are = absurd (false≢true are)
passed (Remove n ∷ changes) rows are =
    ap (λ (l : List LoggedReport). without_all made_key (map (λ (c : Revision ReportRow). revision_key report_key c) changes) l) (sym (made_without n rows)) ∙ passed changes (without report_key n rows) are
