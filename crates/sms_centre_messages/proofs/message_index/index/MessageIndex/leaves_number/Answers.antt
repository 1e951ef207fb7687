use Rattle.std.proofs.Common.{sym, ◌∙◌, subst}
use Rattle.sms_centre_messages.specs.message_index.MessageIndex.{Represents, MessageIndexOf}
use Rattle.sms_centre_messages.proofs.message_index.Forgetting.{last_leaves, none_leaves}
use Rattle.sms_centre_messages.proofs.message_index.index.MessageIndex.leaves_number.Goals as goal

pub returns-in-Some : goal.returns-in-Some
returns-in-Some c = λ ms ps h.
    c.is_before.ensures
    ∙ last_leaves (record { names = c.self.inside.names; messages = c.self.inside.messages; parts = c.self.inside.parts; deadlines = c.self.inside.deadlines }) ms ps c.args.message.now c.in-Some.last.now
    (subst (λ (k : MessageIndexOf). Represents k ms ps) (sym c.self.view_is) h) (sym c.in-Some.ensures)

pub returns-in-None : goal.returns-in-None
returns-in-None c = λ ms ps h.
    none_leaves (record { names = c.self.inside.names; messages = c.self.inside.messages; parts = c.self.inside.parts; deadlines = c.self.inside.deadlines }) ms ps c.args.message.now
    (subst (λ (k : MessageIndexOf). Represents k ms ps) (sym c.self.view_is) h) (sym c.in-None.ensures)
