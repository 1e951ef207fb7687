use Rattle.std.proofs.Common.{ap}
use Rattle.sms_centre_messages.specs.message_index.MessageIndex.{MessageIndexOf}
use Rattle.sms_centre_messages.proofs.message_index.Representing.{represents_opened}
use Rattle.sms_centre_messages.proofs.message_index.draft.MessageIndexDraft.of.Goals as goal

pub returns : goal.returns
returns c = λ ms ps qs h.
    represents_opened (record { index = c.args.index.now; messages = c.new-messages.result; parts = c.of-parts.result; priorities = c.new-priorities.result.items })
    c.index.inside.parts ms ps qs c.new-messages.ensures c.of-parts.ensures (ap (λ (k : MessageIndexOf). k.parts) c.index.view_is) c.new-priorities.ensures.items h
