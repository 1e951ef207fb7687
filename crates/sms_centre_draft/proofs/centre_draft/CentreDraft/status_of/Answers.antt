use Rattle.std.proofs.Common.{Option, sym, subst}
use Rattle.sms_centre_rows.specs.declared.messages.message.MessageRow.{MessageRow}
use Rattle.sms_centre_reports.specs.declared.open_reports.entry.ReportEntry.{ReportEntry}
use Rattle.sms_centre_draft.specs.Transfers.{IsOpenStatus}
use Rattle.sms_centre_draft.specs.CentreDraft.{Represents, CentreDraftOf}
use Rattle.sms_centre_draft.proofs.FoundOpen.{found_open_status}
use Rattle.sms_centre_draft.proofs.centre_draft.CentreDraft.status_of.Goals as goal

pub returns : goal.returns
returns c = λ d id represents found.
    let w : CentreDraftOf = record { setup = c.self.inside.setup.now; moment = c.self.inside.moment; messages = c.self.inside.messages; queues = c.self.inside.queues; reports = c.self.inside.reports; bindings = c.self.inside.bindings; answer = c.self.inside.answer } in
    let was : Represents d w = subst (λ (x : CentreDraftOf). Represents d x) (sym c.self.view_is) represents in
    subst (λ (o : Option (ReportEntry × MessageRow)). IsOpenStatus id d.store o) (sym c.waiting_status.ensures)
    (found_open_status id d.store c.args.entry c.in_ok-message.message was.consistent found (c.in_ok-message.ensures d.store.messages was.messages))
