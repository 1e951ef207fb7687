use Rattle.std.proofs.Common.{◌≡◌, ℕ, true, false, Option, OnOk, sym, ◌∙◌, ap, subst}
use Rattle.sms_centre_rows.specs.declared.messages.message.MessageRow.{MessageRow}
use Rattle.sms_centre_rows.specs.declared.reports.report.ReportRow.{ReportRow}
use Rattle.sms_centre_reports.specs.declared.open_reports.entry.ReportEntry.{ReportEntry}
use Rattle.sms_centre_rows.specs.declared.waiting.progress.Progress.{Progress}
use Rattle.sms_centre_rows.specs.waiting.Trying.{due_at}
use Rattle.sms_centre_spec.specs.Draft.{in_store, with_report_at}
use Rattle.sms_centre_spec.specs.Receiving.{report_due}
use Rattle.sms_centre_draft.specs.Transfers.{IsOpenStatus}
use Rattle.sms_centre_draft.specs.CentreDraft.{Represents}
use Rattle.sms_centre_draft.proofs.FoundOpen.{open_undone}
use Rattle.sms_centre_draft.proofs.centre_draft.CentreDraft.status_due.Goals as goal

pub returns-in-Some : goal.returns-in-Some
returns-in-Some c = λ d represents is_open.
    let found = subst (λ (o : Option (ReportEntry × MessageRow)). IsOpenStatus c.args.id d.store o) c.in-Some.is (c.in_ok-found.ensures d represents) in
    let r = found.0 in
    let w = found.1 in
    let same : c.due_at-progress.result ≡ due_at d.store.moment r.progress =
    c.due_at-progress.ensures ∙ ap (λ (n : ℕ). due_at n c.in-Some.entry.progress) (c.now.ensures d represents) ∙ ap (λ (e : ReportEntry). due_at d.store.moment e.progress) w.entry_is in
    let done = c.status_off.ensures d r represents w.own w.entry_is w.waits w.message (ap (λ (q : Progress). q.is_done) same ∙ open_undone r w.waits) in
    subst (λ (o : Option ReportRow). OnOk c.status_off.result (Represents (in_store (report_due o d.store) d) c.status_off.new.self)) (sym w.report)
    (subst (λ (q : Progress). OnOk c.status_off.result (Represents (in_store (with_report_at r q d.store) d) c.status_off.new.self)) same done)

pub returns-in-None : goal.returns-in-None
returns-in-None c = λ d represents is_open.
    let none = subst (λ (o : Option (ReportEntry × MessageRow)). IsOpenStatus c.args.id d.store o) c.in-None.is (c.in_ok-found.ensures d represents) in
    let bad : true ≡ false = sym is_open ∙ none in absurd cc
