use Rattle.std.proofs.Common.{sym, subst}
use Rattle.sms_centre_rows.specs.messages.Messages.{put_part}
use Rattle.sms_centre_rows.specs.messages.PartEntries.{PartsOf}
use Rattle.sms_centre_messages.specs.message_index.MessageIndex.{MessageIndexDraftOf, DraftRepresents}
use Rattle.sms_centre_messages.proofs.message_index.Representing.{represents_part}
use Rattle.sms_centre_messages.proofs.message_index.draft.MessageIndexDraft.put_part.Goals as goal

pub returns : goal.returns
returns c = λ m s.
    subst (λ (ps : PartsOf). DraftRepresents (record { index = c.self.inside.index.now; messages = c.self.inside.messages; parts = ps; priorities = c.self.inside.priorities.items }) (put_part c.args.row m)) (sym c.in_ok-put.ensures)
    (represents_part c.args.row (record { index = c.self.inside.index.now; messages = c.self.inside.messages; parts = c.self.inside.parts; priorities = c.self.inside.priorities.items }) m (subst (λ (p : MessageIndexDraftOf). DraftRepresents p m) (sym c.self.view_is) s))
