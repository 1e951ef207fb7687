use Rattle.std.proofs.Common.{◌≡◌, true, false, Option, Some, OnOk, sym, ◌∙◌, ap, subst}
use Rattle.sms_centre_rows.specs.declared.messages.message.MessageRow.{MessageRow}
use Rattle.sms_centre_rows.specs.declared.reports.report.ReportRow.{ReportRow}
use Rattle.sms_centre_reports.specs.declared.open_reports.entry.ReportEntry.{ReportEntry}
use Rattle.sms_centre_spec.specs.Draft.{in_store}
use Rattle.sms_centre_spec.specs.Transfers.{is_open_status_at, report_closed}
use Rattle.sms_centre_draft.specs.Transfers.{IsOpenStatus}
use Rattle.sms_centre_draft.specs.CentreDraft.{Represents}
use Rattle.sms_centre_draft.proofs.centre_draft.CentreDraft.drop_status.Goals as goal

pub returns-in-Some : goal.returns-in-Some
returns-in-Some c = λ d r represents there waits.
    let found = subst (λ (o : Option (ReportEntry × MessageRow)). IsOpenStatus c.args.id d.store o) c.in-Some.is (c.in_ok-found.ensures d represents) in
    let w = found.1 in
    let both : Some found.0 ≡ Some r = sym w.report ∙ there in
    let same : found.0 ≡ r = cc in
    subst (λ (x : ReportRow). OnOk c.close_status.result (Represents (in_store (report_closed x d.store) d) c.close_status.new.self)) same
    (c.close_status.ensures d found.0 represents w.own w.entry_is w.waits w.message)

pub returns-in-None : goal.returns-in-None
returns-in-None c = λ d r represents there waits.
    let none = subst (λ (o : Option (ReportEntry × MessageRow)). IsOpenStatus c.args.id d.store o) c.in-None.is (c.in_ok-found.ensures d represents) in
    let bad : true ≡ false = sym (ap (λ (o : Option ReportRow). is_open_status_at o) there ∙ waits) ∙ none in absurd cc
