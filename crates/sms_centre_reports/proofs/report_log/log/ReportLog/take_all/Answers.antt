use Rattle.std.proofs.Common.{◌≡◌, List, map, true, sym, ap, subst}
use Rattle.sms_rows.specs.table.Table.{Rises, RowsInMemory}
use Rattle.sms_rows.proofs.table.Removals.{rises_without_all}
use Rattle.sms_centre_rows.specs.declared.reports.report.ReportRow.{ReportRow}
use Rattle.sms_centre_rows.specs.declared.waiting.revision.Revision.{Revision}
use Rattle.sms_centre_rows.specs.reports.Reports.{report_key}
use Rattle.sms_centre_rows.specs.waiting.Revisions.{revision_key}
use Rattle.sms_centre_reports.specs.declared.report_log.log.LoggedReport.{LoggedReport}
use Rattle.sms_centre_reports.specs.report_log.Places.{AreFound}
use Rattle.sms_centre_reports.specs.report_log.ReportLog.{made_key}
use Rattle.sms_centre_reports.proofs.report_log.Indexing.{gone_found}
use Rattle.sms_centre_reports.proofs.report_log.log.ReportLog.take_all.Goals as goal

pub invariant_of-self : goal.invariant_of-self
invariant_of-self c =
    let rs = c.self.inside.reports.rows in
    let keys = map (λ (x : Revision ReportRow). revision_key report_key x) c.args.changes.now in
    subst (λ (l : List LoggedReport). Rises made_key l × (c.self.inside.is_once ≡ true → AreFound l c.take_all.new.self)) (sym (ap (λ (t : RowsInMemory LoggedReport). t.rows) c.remove_all.ensures))
    (rises_without_all made_key keys rs c.self.invariant.0, λ once. gone_found keys rs c.self.inside.places c.take_all.new.self c.self.invariant.0 c.take_all.ensures (c.self.invariant.1 once))
