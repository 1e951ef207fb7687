use Rattle.std.proofs.Common.{Option, sym, subst}
use Rattle.sms_centre_rows.specs.declared.messages.message.MessageRow.{MessageRow}
use Rattle.sms_centre_rows.specs.declared.messages.parts.PartEntry.{PartEntry}
use Rattle.sms_centre_draft.specs.Transfers.{IsOpenPart}
use Rattle.sms_centre_draft.specs.CentreDraft.{Represents, CentreDraftOf}
use Rattle.sms_centre_draft.proofs.FoundOpen.{found_open_part}
use Rattle.sms_centre_draft.proofs.centre_draft.CentreDraft.open_part.Goals as goal

pub returns : goal.returns
returns c = λ d represents.
    let w : CentreDraftOf = record { setup = c.self.inside.setup.now; moment = c.self.inside.moment; messages = c.self.inside.messages; queues = c.self.inside.queues; reports = c.self.inside.reports; bindings = c.self.inside.bindings; answer = c.self.inside.answer } in
    let was : Represents d w = subst (λ (x : CentreDraftOf). Represents d x) (sym c.self.view_is) represents in
    subst (λ (o : Option (PartEntry × MessageRow)). IsOpenPart c.args.id c.args.number d.store o) (sym c.waiting_part.ensures)
    (found_open_part c.args.id c.args.number d.store c.in-Some.entry c.in_ok-message.message (c.in-Some.ensures d.store.messages was.messages) (c.in_ok-message.ensures d.store.messages was.messages))
