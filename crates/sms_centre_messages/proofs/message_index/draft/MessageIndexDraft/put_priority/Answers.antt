use Rattle.std.proofs.Common.{List, sym, subst}
use Rattle.sms_centre_rows.specs.declared.messages.priority.PriorityRow.{PriorityRow}
use Rattle.sms_centre_rows.specs.messages.Messages.{put_priority}
use Rattle.sms_rows.specs.declared.table.change.Change.{Change}
use Rattle.sms_centre_messages.specs.message_index.MessageIndex.{MessageIndexDraftOf, DraftRepresents}
use Rattle.sms_centre_messages.proofs.message_index.Representing.{represents_priority}
use Rattle.sms_centre_messages.proofs.message_index.draft.MessageIndexDraft.put_priority.Goals as goal

pub returns : goal.returns
returns c = λ m s.
    subst (λ (cs : List (Change PriorityRow)). DraftRepresents (record { index = c.self.inside.index.now; messages = c.self.inside.messages; parts = c.self.inside.parts; priorities = cs }) (put_priority c.args.row m)) (sym c.in_ok-push.ensures.items)
    (represents_priority c.args.row (record { index = c.self.inside.index.now; messages = c.self.inside.messages; parts = c.self.inside.parts; priorities = c.self.inside.priorities.items }) m (subst (λ (p : MessageIndexDraftOf). DraftRepresents p m) (sym c.self.view_is) s))
