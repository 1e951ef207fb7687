-- The rows that a keep in memory has.
use Rattle.std.specs.Prelude.{◌≡◌, ⊤, length}
use Rattle.sms_rows.specs.keep.KeepState.{KeepState}
use Rattle.sms_rows.specs.table.Table.{HasRoom}
use Rattle.sms_handset_draft.specs.declared.rows.Rows.{Rows}
use Rattle.sms_handset_draft.specs.Draft.{Changes}
use Rattle.sms_store_memory.specs.declared.handset.keep.MemoryKeep.{MemoryKeep}

abbrev pub rows_in : MemoryKeep → Rows
rows_in keep = record {
  entries = keep.entries.rows;
  last = keep.last.rows;
  outbox = keep.outbox.rows;
  marks = keep.marks.rows;
  counters = keep.counters;
  setup = keep.setup;
}

-- the changes can be made without taking memory
pub record HasRoomFor (changes : Changes) (keep : MemoryKeep) : Type 0 where
  pub entries : HasRoom (length changes.entries) keep.entries
  pub last : HasRoom (length changes.last) keep.last
  pub outbox : HasRoom (length changes.outbox) keep.outbox
  pub marks : HasRoom (length changes.marks) keep.marks

-- What contracts see of it. It is honest at all times, and it is never closed.
abbrev pub state_of : MemoryKeep → KeepState Rows
state_of keep = record {
  is_honest = ⊤;
  holds = λ rows. rows_in keep ≡ rows;
  is_closed = ⊥;
  refusals = keep.refusals;
}
