use Rattle.std.proofs.Common.{◌+◌, List, map, sym, ◌∙◌, ap, ap₂, arith}
use Rattle.sms_centre_rows.specs.declared.reports.report.ReportRow.{ReportRow}
use Rattle.sms_centre_rows.specs.reports.Reports.{report_key, report_reaching}
use Rattle.sms_rows.specs.table.Table.{put, without}
use Rattle.sms_centre_rows.specs.declared.waiting.revision.Revision.{Revision}
use Rattle.sms_centre_rows.specs.waiting.Revisions.{revised}
use Rattle.sms_centre_reports.specs.declared.report_log.log.LoggedReport.{LoggedReport}
use Rattle.sms_centre_reports.specs.report_log.ReportLog.{made_key, made_report}
use Rattle.sms_centre_reports.proofs.report_log.Registering.{made_amended, made_put, made_without}
use Rattle.sms_centre_reports.proofs.report_log.Rooms.{fewer_room}
use Rattle.sms_centre_reports.proofs.report_log.log.ReportLog.apply.Goals as goal

pub returns-in-Put-clause-holds : goal.returns-in-Put-clause-holds
returns-in-Put-clause-holds c = λ rows h.
    c.put.ensures.reports
    ∙ ap₂ (λ (x : LoggedReport) (xs : List LoggedReport). put made_key x xs) c.made.ensures h
    ∙ sym (made_put c.in-Put.row rows)
    ∙ ap (λ (r : Revision ReportRow). map made_report (revised report_key report_reaching r rows)) (sym c.in-Put.is)

pub returns-in-Amend-clause-holds : goal.returns-in-Amend-clause-holds
returns-in-Amend-clause-holds c = λ rows h.
    h ∙ sym (made_amended c.in-Amend.key c.in-Amend.progress rows)
    ∙ ap (λ (r : Revision ReportRow). map made_report (revised report_key report_reaching r rows)) (sym c.in-Amend.is)

pub returns-in-Amend-clause-room : goal.returns-in-Amend-clause-room
returns-in-Amend-clause-room c = λ extra room. fewer_room extra (extra + 1) c.args.self.now (omega arith) room

pub returns-in-Remove-clause-holds : goal.returns-in-Remove-clause-holds
returns-in-Remove-clause-holds c = λ rows h.
    c.take_out.ensures.reports
    ∙ ap (λ (xs : List LoggedReport). without made_key c.in-Remove.key xs) h
    ∙ sym (made_without c.in-Remove.key rows)
    ∙ ap (λ (r : Revision ReportRow). map made_report (revised report_key report_reaching r rows)) (sym c.in-Remove.is)

pub returns-in-Remove-clause-room : goal.returns-in-Remove-clause-room
returns-in-Remove-clause-room c = λ extra room. c.take_out.ensures.room extra (fewer_room extra (extra + 1) c.args.self.now (omega arith) room)
