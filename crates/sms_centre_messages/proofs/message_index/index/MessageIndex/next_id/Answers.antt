use Rattle.std.proofs.Common.{ℕ, ◌+◌, sym, ◌∙◌, ap, subst}
use Rattle.sms_centre_messages.specs.message_index.MessageIndex.{Represents, MessageIndexOf}
use Rattle.sms_centre_messages.proofs.message_index.IndexRepresents.{next_none, next_some}
use Rattle.sms_centre_messages.proofs.message_index.index.MessageIndex.next_id.Goals as goal

pub returns-in-Some : goal.returns-in-Some
returns-in-Some c = λ ms ps h.
    ap (λ (n : ℕ). n + 1) c.number.ensures.value
    ∙ next_some (record { names = c.self.inside.names; messages = c.self.inside.messages; parts = c.self.inside.parts; deadlines = c.self.inside.deadlines }) ms ps c.in-Some.entry.now
    (subst (λ (k : MessageIndexOf). Represents k ms ps) (sym c.self.view_is) h) (sym c.in-Some.ensures)

pub returns-in-None : goal.returns-in-None
returns-in-None c = λ ms ps h.
    next_none (record { names = c.self.inside.names; messages = c.self.inside.messages; parts = c.self.inside.parts; deadlines = c.self.inside.deadlines }) ms ps
    (subst (λ (k : MessageIndexOf). Represents k ms ps) (sym c.self.view_is) h) (sym c.in-None.ensures)
