use Rattle.std.proofs.Common.{ℕ, List, length, sym, ◌∙◌, ap, subst}
use Rattle.sms_centre_rows.specs.declared.messages.message.MessageRow.{MessageRow}
use Rattle.sms_rows.specs.declared.table.change.Change.{Change}
use Rattle.sms_centre_messages.specs.message_index.MessageIndex.{FitsTheMessages, MessageIndexDraftOf, DraftRepresents}
use Rattle.sms_centre_messages.proofs.message_index.Settles.{settled}
use Rattle.sms_centre_messages.proofs.message_index.draft.MessageIndexDraft.settle.Goals as goal

pub returns-in-Ok-clause-settled : goal.returns-in-Ok-clause-settled
returns-in-Ok-clause-settled c = λ m s.
    settled (record { index = c.self.inside.index.now; messages = c.self.inside.messages; parts = c.self.inside.parts; priorities = c.self.inside.priorities.items }) m (record { messages = c.from_vec-messages.result; parts = c.from_vec-changes.result; priorities = c.from_vec-priorities.result; reserve = c.in-Ok.parts.reserve }) (subst (λ (p : MessageIndexDraftOf). DraftRepresents p m) (sym c.self.view_is) s)
    (c.from_vec-messages.ensures ∙ c.into_vec.ensures) (c.from_vec-changes.ensures ∙ c.in-Ok.ensures.changes.1) c.from_vec-priorities.ensures
    c.in-Ok.ensures.changes.0

pub returns-in-Ok-clause-fits : goal.returns-in-Ok-clause-fits
returns-in-Ok-clause-fits c =
    subst (λ (n : ℕ). FitsTheMessages c.in-Ok.parts.reserve n c.args.index.now)
    (c.len-count.ensures ∙ ap (λ (l : List (Change MessageRow)). length l) (sym (c.from_vec-messages.ensures ∙ c.into_vec.ensures)))
    c.in-Ok.ensures.fits
