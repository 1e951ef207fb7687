-- The parts without their TPDUs, as they are kept in memory.
use Rattle.std.specs.Prelude.{◌≡◌, ℕ, zero, suc, ◌<◌, ◌≤◌, ◌&&◌, List, [], ◌∷◌, ◌++◌, map, Bool, true, Option, Some, None}
use Rattle.sms_base.specs.Among.{Among}
use Rattle.sms_rows.specs.declared.table.change.Change.TheVariants.{Put as PutRow}
use Rattle.sms_rows.specs.table.Keys.{pair_key}
use Rattle.sms_rows.specs.table.TableDraft.{TableDraftOf, changed, rows_in}
use Rattle.sms_rows.specs.table.Table.{Rises, row_at}
use Rattle.sms_centre_rows.specs.declared.messages.part.PartRow.{PartRow}
use Rattle.sms_centre_rows.specs.declared.messages.parts.PartEntry.{PartEntry}
use Rattle.sms_centre_rows.specs.messages.Messages.{part_key, part_reaching}
use Rattle.sms_centre_rows.specs.declared.waiting.progress.Progress.{Progress}
use Rattle.sms_centre_rows.specs.declared.waiting.revision.Revision.{Revision}
use Rattle.sms_centre_rows.specs.declared.waiting.revision.Revision.TheVariants.{Put, Amend}
use Rattle.sms_centre_rows.specs.waiting.Revisions.{Revised, oldest_first, rows_of}

abbrev pub entry_key : PartEntry → ℕ
entry_key e = pair_key e.id e.number

abbrev pub part_entry : PartRow → PartEntry
part_entry p = record { id = p.id; number = p.number; reference = p.reference; key = p.key; progress = p.progress }

abbrev pub entry_reaching : Progress → PartEntry → PartEntry
entry_reaching progress e = record e { progress = progress }

-- the parts in the middle of an event, and what it changed of them, the oldest first
pub record PartsOf : Type 0 where
  pub entries : TableDraftOf PartEntry
  pub changes : List (Revision PartRow)

abbrev pub rows_now : PartsOf → List PartEntry
rows_now p = rows_in entry_key p.entries

abbrev pub putting : PartRow → PartsOf → PartsOf
putting row p = record { entries = changed (PutRow (part_entry row)) p.entries; changes = p.changes ++ Put row ∷ [] }

abbrev pub amending : PartEntry → Progress → PartsOf → PartsOf
amending entry progress p = record {
  entries = changed (PutRow (entry_reaching progress entry)) p.entries;
  changes = p.changes ++ Amend (entry_key entry) progress ∷ [];
}

-- ---- what of a message is done

abbrev pub is_done_entry : Option PartEntry → Bool
is_done_entry None = true
is_done_entry (Some e) = e.progress.is_done

-- its parts with numbers up to that
unfoldable pub done_to : ℕ → ℕ → List PartEntry → Bool
done_to id zero entries = true
done_to id (suc n) entries = is_done_entry (row_at entry_key (pair_key id (suc n)) entries) && done_to id n entries

-- ---- what they are of the rows

-- they are the parts of those rows without their TPDUs, and the changes are theirs
pub record Represents (p : PartsOf) (t : Revised PartRow) : Type 0 where
  pub entries : rows_now p ≡ map part_entry (rows_of part_key part_reaching t)
  pub changes : p.changes ≡ oldest_first t.news

-- parts have numbers from 1 to 20, and are in the order of their keys
pub record Few (ps : List PartRow) : Type 0 where
  pub keys : Rises part_key ps
  pub numbers : (p : PartRow) → Among p ps → (0 < p.number) × (p.number ≤ 20)
