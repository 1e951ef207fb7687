use Rattle.std.proofs.Common.{◌≡◌, ℕ, Option, IfOk, sym, ◌∙◌, ap, subst}
use Rattle.sms_centre_rows.specs.declared.messages.message.MessageRow.{MessageRow}
use Rattle.sms_centre_rows.specs.messages.Messages.{message_at, message_key}
use Rattle.sms_rows.specs.declared.table.change.Change.{Change}
use Rattle.sms_rows.specs.table.Table.{left_by, newest_of}
use Rattle.sms_centre_messages.specs.message_index.MessageIndex.{MessageIndexDraftOf, DraftRepresents}
use Rattle.sms_centre_messages.proofs.message_index.Representing.{found_shown}
use Rattle.sms_centre_messages.proofs.message_index.draft.MessageIndexDraft.find.Goals as goal

pub returns-in-Some : goal.returns-in-Some
returns-in-Some c = λ m s.
    subst (λ (o : Option MessageRow). IfOk c.copy_left_by.result (λ (r : Option MessageRow). r ≡ o))
    (sym (found_shown c.args.self.now m c.args.id s
    ∙ ap (λ (k : ℕ). left_by (newest_of message_key k c.args.self.now.messages) (message_at c.args.id m.messages.base)) (sym (c.of.ensures ∙ c.number.ensures.value))
    ∙ ap (λ (o : Option (Change MessageRow)). left_by o (message_at c.args.id m.messages.base)) (sym (c.in-Some.ensures ∙ ap (λ (p : MessageIndexDraftOf). newest_of message_key c.of.result p.messages) c.self.view_is))))
    c.copy_left_by.ensures

pub returns-in-None : goal.returns-in-None
returns-in-None c = λ m s.
    subst (λ (o : Option MessageRow). IfOk c.find.result (λ (r : Option MessageRow). r ≡ o))
    (sym (found_shown c.args.self.now m c.args.id s
    ∙ ap (λ (k : ℕ). left_by (newest_of message_key k c.args.self.now.messages) (message_at c.args.id m.messages.base)) (sym (c.of.ensures ∙ c.number.ensures.value))
    ∙ ap (λ (o : Option (Change MessageRow)). left_by o (message_at c.args.id m.messages.base)) (sym (c.in-None.ensures ∙ ap (λ (p : MessageIndexDraftOf). newest_of message_key c.of.result p.messages) c.self.view_is))))
    (c.find.ensures m.messages.base m.parts.base (subst (λ (p : MessageIndexDraftOf). DraftRepresents p m) (sym c.self.view_is) s).index)
