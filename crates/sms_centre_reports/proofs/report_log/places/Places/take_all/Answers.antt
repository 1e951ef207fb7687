use Rattle.std.proofs.Common.{ℕ, List, map, take, sym, subst, arith}
use Rattle.sms_rows.specs.table.Table.{row_at}
use Rattle.sms_centre_rows.specs.declared.reports.report.ReportRow.{ReportRow}
use Rattle.sms_centre_rows.specs.declared.waiting.revision.Revision.{Revision}
use Rattle.sms_centre_rows.specs.reports.Reports.{report_key}
use Rattle.sms_centre_rows.specs.waiting.Revisions.{revision_key}
use Rattle.sms_centre_reports.specs.report_log.Places.{HasTaken, message_there, messages_at}
use Rattle.sms_centre_reports.specs.report_log.ReportLog.{made_key}
use Rattle.sms_centre_reports.proofs.report_log.Indexing.{both_taken, next_taken}
use Rattle.sms_centre_reports.proofs.report_log.places.Places.take_all.Goals as goal

pub loop-change-preserved : goal.loop-change-preserved
loop-change-preserved c =
    let i = c.loop-change.change-index in
    let cs = c.args.changes.now in
    let rs = c.args.reports.now.rows in
    let before = messages_at made_key (map (λ (x : Revision ReportRow). revision_key report_key x) (take i cs)) rs in
    subst (λ (ids : List ℕ). HasTaken ids c.args.self.now c.take_at.new.self) (sym (next_taken i c.key.result c.change-item.result cs rs (omega (arith, c.loop-change-test.true)) c.change-item.is c.key.ensures))
    (both_taken before (message_there (row_at made_key c.key.result rs)) c.args.self.now c.loop-change.self c.take_at.new.self c.loop-change.invariant c.take_at.ensures)
