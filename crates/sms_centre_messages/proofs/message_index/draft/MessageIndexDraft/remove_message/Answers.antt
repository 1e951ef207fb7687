use Rattle.std.proofs.Common.{List, sym, subst, ◌∙◌}
use Rattle.sms_centre_rows.specs.declared.messages.message.MessageRow.{MessageRow}
use Rattle.sms_rows.specs.declared.table.change.Change.{Change}
use Rattle.sms_centre_messages.specs.message_index.MessageIndex.{MessageIndexDraftOf, DraftRepresents}
use Rattle.sms_centre_spec.specs.forgetting.Forget.{without_message}
use Rattle.sms_centre_messages.proofs.message_index.Removals.{message_removed}
use Rattle.sms_centre_messages.proofs.message_index.draft.MessageIndexDraft.remove_message.Goals as goal

pub returns : goal.returns
returns c = λ m s.
    subst (λ (cs : List (Change MessageRow)). DraftRepresents (record { index = c.self.inside.index.now; messages = cs; parts = c.self.inside.parts; priorities = c.self.inside.priorities.items }) (without_message c.args.id m)) (sym c.in_ok-push.ensures.ok)
    (message_removed c.of.result c.args.id (record { index = c.self.inside.index.now; messages = c.self.inside.messages; parts = c.self.inside.parts; priorities = c.self.inside.priorities.items }) m (c.of.ensures ∙ c.number.ensures.value) (subst (λ (p : MessageIndexDraftOf). DraftRepresents p m) (sym c.self.view_is) s))
