use Rattle.std.proofs.Common.{subst}
use Rattle.sms_centre_rows.specs.declared.messages.message.MessageRow.{MessageRow}
use Rattle.sms_centre_rows.specs.messages.Messages.{message_key}
use Rattle.sms_rows.specs.table.Table.{put}
use Rattle.sms_centre_messages.specs.message_index.MessageIndex.{Represents}
use Rattle.sms_centre_messages.proofs.message_index.index.MessageIndex.enter_copy.Goals as goal

pub returns : goal.returns
returns c = λ ms ps h.
    subst (λ (r : MessageRow). Represents c.enter.new.self (put message_key r ms) ps) c.in_ok-copy.ensures (c.in_ok-enter.ensures ms ps h)
