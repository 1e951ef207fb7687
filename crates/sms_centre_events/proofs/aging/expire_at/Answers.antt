use Rattle.std.proofs.Common.{◌≡◌, Option, Some, OnOk, sym, ◌∙◌, subst}
use Rattle.sms_centre_rows.specs.declared.messages.message.MessageRow.{MessageRow}
use Rattle.sms_centre_rows.specs.messages.Messages.{message_at}
use Rattle.sms_centre_spec.specs.Draft.{in_store, messages_in}
use Rattle.sms_centre_spec.proofs.Steady.{message_own}
use Rattle.sms_centre_draft.specs.walks.Expiring.{expire_found}
use Rattle.sms_centre_draft.specs.CentreDraft.{Represents}
use Rattle.sms_centre_events.proofs.aging.expire_at.Goals as goal

pub returns-in-Some : goal.returns-in-Some
returns-in-Some c = λ d represents.
    let there : message_at c.args.id (messages_in d.store) ≡ Some c.in-Some.message = sym (c.in_ok-found.ensures d represents) ∙ c.in-Some.is in
    subst (λ (o : Option MessageRow). OnOk c.expire.result (Represents (in_store (expire_found o d.store) d) c.expire.new.self)) (sym there)
    (c.expire.ensures d represents (message_own c.args.id c.in-Some.message d.store there))
