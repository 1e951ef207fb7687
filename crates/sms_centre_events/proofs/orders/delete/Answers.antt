use Rattle.std.proofs.Common.{Option, OnOk, subst}
use Rattle.sms_centre_rows.specs.declared.messages.message.MessageRow.{MessageRow}
use Rattle.sms_centre_spec.specs.Requests.{cancelled}
use Rattle.sms_centre_draft.specs.CentreDraft.{Represents}
use Rattle.sms_centre_events.proofs.FoundMessages.{numbered_stored}
use Rattle.sms_centre_events.proofs.orders.delete.Goals as goal

pub returns : goal.returns
returns c = λ d represents.
    let is = c.in_ok-found.ensures d represents in
    subst (λ (o : Option MessageRow). OnOk c.cancel_found.result (Represents (cancelled o d) c.cancel_found.new.draft)) is
    (c.cancel_found.ensures d represents (numbered_stored c.args.id d.store c.in_ok-found.found is))
