use Rattle.std.proofs.Common.{sym, subst}
use Rattle.sms_centre_rows.specs.messages.PartEntries.{PartsOf, entry_key}
use Rattle.sms_centre_messages.specs.message_index.MessageIndex.{MessageIndexDraftOf, DraftRepresents}
use Rattle.sms_centre_spec.specs.forgetting.Forget.{without_part}
use Rattle.sms_centre_messages.proofs.message_index.Removals.{part_removed}
use Rattle.sms_centre_messages.proofs.message_index.draft.MessageIndexDraft.remove_part.Goals as goal

pub returns : goal.returns
returns c = λ m s.
    subst (λ (ps : PartsOf). DraftRepresents (record { index = c.self.inside.index.now; messages = c.self.inside.messages; parts = ps; priorities = c.self.inside.priorities.items }) (without_part (entry_key c.args.entry.now) m)) (sym c.in_ok-remove.ensures)
    (part_removed c.key.result (entry_key c.args.entry.now) (record { index = c.self.inside.index.now; messages = c.self.inside.messages; parts = c.self.inside.parts; priorities = c.self.inside.priorities.items }) m c.key.ensures (subst (λ (p : MessageIndexDraftOf). DraftRepresents p m) (sym c.self.view_is) s))
