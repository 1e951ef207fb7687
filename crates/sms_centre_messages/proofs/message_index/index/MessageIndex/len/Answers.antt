use Rattle.std.proofs.Common.{length, ◌∙◌, ap}
use Rattle.sms_centre_messages.specs.message_index.MessageIndex.{MessageIndexOf}
use Rattle.sms_centre_messages.proofs.message_index.IndexRepresents.{as_many}
use Rattle.sms_centre_messages.proofs.message_index.index.MessageIndex.len.Goals as goal

pub returns : goal.returns
returns c = λ ms ps h.
    c.len.ensures ∙ ap (λ (k : MessageIndexOf). length k.messages.rows) c.self.view_is
    ∙ as_many c.args.self.now.names c.args.self.now.messages.rows ms h.messages
