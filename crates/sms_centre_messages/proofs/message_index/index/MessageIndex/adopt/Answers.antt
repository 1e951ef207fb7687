use Rattle.std.proofs.Common.{List, subst}
use Rattle.sms_centre_rows.specs.declared.messages.message.MessageRow.{MessageRow}
use Rattle.sms_centre_rows.specs.messages.Messages.{message_key}
use Rattle.sms_rows.specs.declared.table.change.Change.{Change}
use Rattle.sms_rows.specs.table.Table.{all_applied}
use Rattle.sms_centre_messages.specs.message_index.MessageIndex.{Represents}
use Rattle.sms_centre_messages.proofs.message_index.IndexRepresents.{holds_taken}
use Rattle.sms_centre_messages.proofs.message_index.index.MessageIndex.adopt.Goals as goal

pub returns : goal.returns
returns c = λ ms ps others h matches.
    c.drop_stale.ensures (all_applied message_key c.args.messages ms) others
    (subst (λ (cs : List (Change MessageRow)). Represents c.apply_all.new.self (all_applied message_key cs ms) others) c.into_vec.ensures
    (c.apply_all.ensures ms others (holds_taken c.args.reserve c.args.self.now c.take_in.new.self ms ps others c.take_in.ensures h matches)))
