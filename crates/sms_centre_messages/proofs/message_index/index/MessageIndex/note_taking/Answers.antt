use Rattle.std.proofs.Common.{subst}
use Rattle.sms_centre_messages.specs.message_index.MessageIndex.{MessageIndexOf, Notes}
use Rattle.sms_centre_messages.proofs.message_index.IndexRepresents.{noted}
use Rattle.sms_centre_messages.proofs.message_index.index.MessageIndex.note_taking.Goals as goal

pub returns-in_ok-push : goal.returns-in_ok-push
returns-in_ok-push c =
    subst (λ (k : MessageIndexOf). Notes c.args.row.now k (record { names = c.self.inside.names; messages = c.self.inside.messages; parts = c.self.inside.parts; deadlines = c.push.new.self })) c.self.view_is
    (noted c.args.row.now (record { names = c.self.inside.names; messages = c.self.inside.messages; parts = c.self.inside.parts; deadlines = c.self.inside.deadlines }) c.push.new.self c.in_ok-push.ensures.own c.in_ok-push.ensures.others c.in_ok-push.ensures.len c.in_ok-push.ensures.capacity)
