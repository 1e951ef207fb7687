use Rattle.std.proofs.Common.{List, map, sym, ◌∙◌, ap}
use Rattle.sms_rows.specs.table.Table.{without_all}
use Rattle.sms_centre_rows.specs.declared.reports.report.ReportRow.{ReportRow}
use Rattle.sms_centre_rows.specs.declared.waiting.revision.Revision.{Revision}
use Rattle.sms_centre_rows.specs.reports.Reports.{report_key}
use Rattle.sms_centre_rows.specs.waiting.Revisions.{revision_key}
use Rattle.sms_centre_reports.specs.declared.report_log.log.LoggedReport.{LoggedReport}
use Rattle.sms_centre_reports.specs.report_log.ReportLog.{made_key}
use Rattle.sms_centre_reports.proofs.report_log.Passing.{passed}
use Rattle.sms_centre_reports.proofs.report_log.log.ReportLog.apply_all.Goals as goal

pub returns-then-only_remove : goal.returns-then-only_remove
returns-then-only_remove c = λ rows h.
    c.take_all.ensures
    ∙ ap (λ (l : List LoggedReport). without_all made_key (map (λ (x : Revision ReportRow). revision_key report_key x) c.args.changes.now) l) h
    ∙ passed c.args.changes.now rows (sym c.only_remove.ensures ∙ c.if-only_remove.true)
