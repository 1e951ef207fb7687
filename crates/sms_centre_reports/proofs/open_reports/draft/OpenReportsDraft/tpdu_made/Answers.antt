use Rattle.std.proofs.Common.{ℕ, List, Some, subst, sym, ◌∙◌, ap}
use Rattle.sms_centre_rows.specs.declared.reports.report.ReportRow.{ReportRow}
use Rattle.sms_rows.specs.table.Table.{row_at}
use Rattle.sms_centre_rows.specs.declared.waiting.revision.Revision.{Revision}
use Rattle.sms_centre_reports.specs.open_reports.OpenReportsDraft.{OpenReportsDraftOf, DraftRepresents, made_key, put_at}
use Rattle.sms_centre_reports.proofs.open_reports.Noting.{never_lost, none_made, one_made}
use Rattle.sms_centre_reports.proofs.open_reports.draft.OpenReportsDraft.tpdu_made.Goals as goal

pub returns-in_default : goal.returns-in_default
returns-in_default c = λ ms t tells.
    none_made ms (record { current = c.self.inside.reports; changes = c.self.inside.changes.items; made = c.self.inside.made.rows }) t (subst (λ (p : OpenReportsDraftOf). DraftRepresents ms p t) (sym c.self.view_is) tells) c.args.id
    (ap (λ (k : ℕ). row_at made_key k c.self.inside.made.rows) (sym (c.of.ensures ∙ c.number.ensures.value)) ∙ sym c.in_default.ensures)

pub returns-in_default-put_at : goal.returns-in_default-put_at
returns-in_default-put_at c = λ ms t tells. absurd
    (never_lost ms (record { current = c.self.inside.reports; changes = c.self.inside.changes.items; made = c.self.inside.made.rows }) t (subst (λ (p : OpenReportsDraftOf). DraftRepresents ms p t) (sym c.self.view_is) tells) c.args.id c.in-Some.made.now
    (ap (λ (k : ℕ). row_at made_key k c.self.inside.made.rows) (sym (c.of.ensures ∙ c.number.ensures.value)) ∙ sym c.in-Some.ensures)
    (ap (λ (cs : List (Revision ReportRow)). put_at c.in-Some.made.now.at cs) (sym c.as_slice.ensures.value) ∙ sym c.in_default-put_at.ensures))

pub returns : goal.returns
returns c = λ ms t tells.
    ap (λ (octets : List ℕ). Some octets) c.tpdu_of.ensures
    ∙ one_made ms (record { current = c.self.inside.reports; changes = c.self.inside.changes.items; made = c.self.inside.made.rows }) t (subst (λ (p : OpenReportsDraftOf). DraftRepresents ms p t) (sym c.self.view_is) tells) c.args.id c.in-Some.made.now c.in-Some-put_at.row.now
    (ap (λ (k : ℕ). row_at made_key k c.self.inside.made.rows) (sym (c.of.ensures ∙ c.number.ensures.value)) ∙ sym c.in-Some.ensures)
    (ap (λ (cs : List (Revision ReportRow)). put_at c.in-Some.made.now.at cs) (sym c.as_slice.ensures.value) ∙ sym c.in-Some-put_at.ensures)
