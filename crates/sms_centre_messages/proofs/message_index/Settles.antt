-- What is settled is what came of the messages.
use Rattle.std.proofs.Common.{◌≡◌, List, map, ◌∙◌, ap}
use Rattle.sms_rows.specs.declared.table.change.Change.{Change}
use Rattle.sms_rows.specs.table.Table.{all_applied}
use Rattle.sms_centre_rows.specs.declared.messages.parts.PartEntry.{PartEntry}
use Rattle.sms_centre_rows.specs.messages.Messages.{Messages}
use Rattle.sms_centre_rows.specs.messages.PartEntries.{entry_key, part_entry}
use Rattle.sms_centre_messages.specs.declared.message_index.draft.MessageIndexPlan.{MessageIndexPlan}
use Rattle.sms_centre_messages.specs.message_index.MessageIndex.{MessageIndexDraftOf, DraftRepresents}
use Rattle.sms_centre_messages.specs.message_index.Settling.{IsSettled}
use Rattle.sms_centre_messages.proofs.message_index.Representing.{parts_match}

pub settled : (p : MessageIndexDraftOf) (m : Messages) (s : MessageIndexPlan) → DraftRepresents p m → s.messages ≡ p.messages → s.parts ≡ p.parts.changes → s.priorities ≡ p.priorities → s.reserve.parts.changes ≡ p.parts.entries.changes → IsSettled m s
settled p m s represents messages parts priorities entries = record {
  messages = messages ∙ represents.messages;
  parts = parts ∙ represents.parts.changes;
  priorities = priorities ∙ represents.priorities;
  matches = (ap (λ (cs : List (Change PartEntry)). all_applied entry_key cs (map part_entry m.parts.base)) entries ∙ parts_match p m represents, represents.part_keys);
}
