use Rattle.std.proofs.Common.{subst}
use Rattle.sms_centre_messages.specs.message_index.MessageIndex.{MessageIndexOf, Notes}
use Rattle.sms_centre_messages.proofs.message_index.IndexRepresents.{noted}
use Rattle.sms_centre_messages.proofs.message_index.index.MessageIndex.note.Goals as goal

pub returns-then-is_none : goal.returns-then-is_none
returns-then-is_none c =
    subst (λ (k : MessageIndexOf). Notes c.args.row.now k (record { names = c.self.inside.names; messages = c.self.inside.messages; parts = c.self.inside.parts; deadlines = c.push_ready.new.self })) c.self.view_is
    (noted c.args.row.now (record { names = c.self.inside.names; messages = c.self.inside.messages; parts = c.self.inside.parts; deadlines = c.self.inside.deadlines }) c.push_ready.new.self c.push_ready.ensures.own c.push_ready.ensures.others c.push_ready.ensures.len c.push_ready.ensures.capacity)
