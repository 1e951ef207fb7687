use Rattle.std.proofs.Common.{Option, Some, OnOk, sym, subst}
use Rattle.sms_centre_rows.specs.declared.messages.message.MessageRow.{MessageRow}
use Rattle.sms_centre_spec.specs.Requests.{cancelled}
use Rattle.sms_centre_draft.specs.CentreDraft.{Represents}
use Rattle.sms_centre_events.specs.Found.{IsStored}
use Rattle.sms_centre_events.proofs.questions.cancel_found.Goals as goal

pub returns-in-Some : goal.returns-in-Some
returns-in-Some c = λ d represents there.
    let stored : IsStored (Some c.in-Some.message) d.store = subst (λ (o : Option MessageRow). IsStored o d.store) c.in-Some.is there in
    subst (λ (o : Option MessageRow). OnOk c.cancelled.result (Represents (cancelled o d) c.cancelled.new.draft)) (sym c.in-Some.is) (c.cancelled.ensures d represents stored)
