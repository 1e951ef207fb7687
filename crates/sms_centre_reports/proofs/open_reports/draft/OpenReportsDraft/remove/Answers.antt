use Rattle.std.proofs.Common.{List, ℕ, ap, subst, sym, ◌∙◌}
use Rattle.sms_centre_reports.specs.open_reports.OpenReportsDraft.{OpenReportsDraftOf, DraftRepresents}
use Rattle.sms_centre_spec.specs.forgetting.Forget.{remove_in}
use Rattle.sms_centre_reports.proofs.open_reports.Removals.{report_removed}
use Rattle.sms_centre_rows.specs.declared.reports.report.ReportRow.{ReportRow}
use Rattle.sms_centre_rows.specs.declared.waiting.revision.Revision.{Revision}
use Rattle.sms_centre_reports.proofs.open_reports.draft.OpenReportsDraft.remove.Goals as goal

pub returns : goal.returns
returns c = λ ms t r tells there at closed low none.
    subst (λ (n : ℕ). DraftRepresents ms (record { current = c.self.inside.reports; changes = c.push.new.self.items; made = c.self.inside.made.rows }) (remove_in n t)) (sym at)
    (report_removed ms (record { current = c.self.inside.reports; changes = c.self.inside.changes.items; made = c.self.inside.made.rows }) (record { current = c.self.inside.reports; changes = c.push.new.self.items; made = c.self.inside.made.rows }) t r c.of.result
    (c.of.ensures ∙ at) (ap (λ (cs : List (Revision ReportRow)). record { current = c.self.inside.reports; changes = cs; made = c.self.inside.made.rows }) c.in_ok-push.ensures.items)
    (subst (λ (p : OpenReportsDraftOf). DraftRepresents ms p t) (sym c.self.view_is) tells) there closed low none)
