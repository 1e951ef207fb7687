-- Messages that go in one pass.
use Rattle.std.proofs.lemmas.Bool.{false≢true}
use Rattle.std.proofs.Common.{◌≡◌, ℕ, List, [], ◌∷◌, map}
use Rattle.sms_rows.specs.declared.table.change.Change.{Change}
use Rattle.sms_rows.specs.declared.table.change.Change.TheVariants.{Put, Remove}
use Rattle.sms_rows.specs.table.Table.{AreRemovals, RowsInMemory, all_applied, change_key, without, without_all}
use Rattle.sms_centre_rows.specs.declared.messages.message.MessageRow.{MessageRow}
use Rattle.sms_centre_rows.specs.declared.messages.part.PartRow.{PartRow}
use Rattle.sms_centre_rows.specs.messages.Messages.{message_key}
use Rattle.sms_centre_messages.specs.declared.message_index.message_entry.MessageEntry.{MessageEntry}
use Rattle.sms_centre_messages.specs.message_index.Entries.{message_entry_key}
use Rattle.sms_centre_messages.specs.message_index.MessageIndex.{MessageIndexOf, Represents}
use Rattle.sms_centre_messages.proofs.message_index.IndexRepresents.{takes_out}

pub passed : (changes : List (Change MessageRow)) (k : MessageIndexOf) (ms : List MessageRow) (ps : List PartRow) → AreRemovals changes → Represents k ms ps
    → Represents (record k { messages = record k.messages { rows = without_all message_entry_key (map (λ (c : Change MessageRow). change_key message_key c) changes) k.messages.rows } }) (all_applied message_key changes ms) ps
passed [] k ms ps are h = h
passed (Put x ∷ changes) k ms ps are h = absurd (false≢true are)
passed (Remove n ∷ changes) k ms ps are h =
    passed changes (record k { messages = record k.messages { rows = without message_entry_key n k.messages.rows } }) (without message_key n ms) ps are ((takes_out n k).holds ms ps h)
