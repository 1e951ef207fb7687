use Rattle.std.proofs.Common.{List, ap, subst, sym}
use Rattle.sms_centre_reports.specs.open_reports.OpenReportsDraft.{OpenReportsDraftOf, DraftRepresents}
use Rattle.sms_centre_reports.proofs.open_reports.Moves.{status_far}
use Rattle.sms_centre_rows.specs.declared.reports.report.ReportRow.{ReportRow}
use Rattle.sms_centre_rows.specs.declared.waiting.revision.Revision.{Revision}
use Rattle.sms_centre_reports.proofs.open_reports.draft.OpenReportsDraft.amend_status.Goals as goal

pub returns : goal.returns
returns c = λ ms t r tells there is one.
    status_far ms (record { current = c.self.inside.reports; changes = c.self.inside.changes.items; made = c.self.inside.made.rows }) (record { current = c.keep_status.new.self; changes = c.push.new.self.items; made = c.self.inside.made.rows }) t r c.args.progress.now c.args.entry.now c.reaching-reached.result c.of-key.result c.keep_status.new.self
    is c.reaching-reached.ensures c.of-key.ensures c.in_ok-keep_status.ensures (ap (λ (cs : List (Revision ReportRow)). record { current = c.keep_status.new.self; changes = cs; made = c.self.inside.made.rows }) c.in_ok-push.ensures.items) (subst (λ (p : OpenReportsDraftOf). DraftRepresents ms p t) (sym c.self.view_is) tells) there one
