use Rattle.std.proofs.Common.{Option, Some, OnOk, sym, subst}
use Rattle.sms_centre_rows.specs.declared.messages.message.MessageRow.{MessageRow}
use Rattle.sms_centre_spec.specs.Orders.{retried}
use Rattle.sms_centre_draft.specs.CentreDraft.{Represents}
use Rattle.sms_centre_events.specs.Found.{IsStored}
use Rattle.sms_centre_events.proofs.orders.retry_found.Goals as goal

pub returns-in-Some : goal.returns-in-Some
returns-in-Some c = λ d represents there.
    let stored : IsStored (Some c.in-Some.message) d.store = subst (λ (o : Option MessageRow). IsStored o d.store) c.in-Some.is there in
    subst (λ (o : Option MessageRow). OnOk c.retried.result (Represents (retried o d) c.retried.new.draft)) (sym c.in-Some.is) (c.retried.ensures d represents stored)
