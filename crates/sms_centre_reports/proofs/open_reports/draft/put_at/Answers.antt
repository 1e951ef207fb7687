use Rattle.std.proofs.Common.{ap, sym, ◌∙◌}
use Rattle.sms_centre_rows.specs.declared.reports.report.ReportRow.{ReportRow}
use Rattle.sms_centre_rows.specs.declared.waiting.revision.Revision.{Revision}
use Rattle.sms_centre_reports.specs.open_reports.OpenReportsDraft.{put_of}
use Rattle.sms_centre_reports.proofs.open_reports.Noting.{put_past, put_there}
use Rattle.sms_centre_reports.proofs.open_reports.draft.put_at.Goals as goal

pub returns-then-place-changes : goal.returns-then-place-changes
returns-then-place-changes c = sym (put_past c.args.place c.args.changes.now c.if-place-changes.true)

pub returns-in-Put : goal.returns-in-Put
returns-in-Put c =
    sym (put_there c.args.place c.index-changes-place.result c.args.changes.now c.if-place-changes.false ∙ ap (λ (r : Revision ReportRow). put_of r) (sym c.index-changes-place.is ∙ c.in-Put.is))

pub returns-in-Amend : goal.returns-in-Amend
returns-in-Amend c =
    sym (put_there c.args.place c.index-changes-place.result c.args.changes.now c.if-place-changes.false ∙ ap (λ (r : Revision ReportRow). put_of r) (sym c.index-changes-place.is ∙ c.in-Amend.is))

pub returns-in-Remove : goal.returns-in-Remove
returns-in-Remove c =
    sym (put_there c.args.place c.index-changes-place.result c.args.changes.now c.if-place-changes.false ∙ ap (λ (r : Revision ReportRow). put_of r) (sym c.index-changes-place.is ∙ c.in-Remove.is))
