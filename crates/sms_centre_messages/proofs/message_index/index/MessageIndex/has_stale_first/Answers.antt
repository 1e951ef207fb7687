use Rattle.std.proofs.Common.{◌≡◌, true, true≢false, Some, sym, ◌∙◌, ap, subst}
use Rattle.sms_rows.specs.declared.expiry.deadline.Deadline.{Deadline}
use Rattle.sms_rows.specs.expiry.Deadlines.{first_of}
use Rattle.sms_centre_rows.specs.messages.Messages.{message_at}
use Rattle.sms_centre_messages.specs.message_index.MessageIndex.{MessageIndexOf, is_ended}
use Rattle.sms_centre_messages.proofs.message_index.index.MessageIndex.has_stale_first.Goals as goal

pub returns-in-Some : goal.returns-in-Some
returns-in-Some c = λ ms ps h t d e.
    let q : Some c.in-Some.first ≡ Some d = c.in-Some.ensures ∙ ap (λ (k : MessageIndexOf). first_of k.deadlines.items) c.self.view_is ∙ e in
    let is : c.in-Some.first ≡ d = cc in
    subst (λ (x : Deadline). is_ended (message_at x.id ms) ≡ true) is (c.is_stale.ensures ms ps h t)

pub returns-in-None : goal.returns-in-None
returns-in-None c = λ ms ps h t d e. absurd (true≢false (sym t))
