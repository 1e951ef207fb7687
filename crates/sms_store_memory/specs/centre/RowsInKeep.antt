-- The rows that a keep in memory has.
use Rattle.std.specs.Prelude.{◌≡◌, ⊤, length}
use Rattle.sms_rows.specs.keep.KeepState.{KeepState}
use Rattle.sms_rows.specs.table.Table.{HasRoom}
use Rattle.sms_centre_spec.specs.declared.rows.Changes.{Changes}
use Rattle.sms_centre_spec.specs.declared.rows.Rows.{Rows}
use Rattle.sms_store_memory.specs.declared.centre.keep.MemoryKeep.{MemoryKeep}

abbrev pub rows_in : MemoryKeep → Rows
rows_in keep = record {
  messages = keep.messages.rows;
  parts = keep.parts.rows;
  references = keep.references.rows;
  handsets = keep.handsets.rows;
  reports = keep.reports.rows;
  priorities = keep.priorities.rows;
  bars = keep.bars.rows;
  setup = keep.setup;
}

-- the changes can be made without taking memory
pub record HasRoomFor (changes : Changes) (keep : MemoryKeep) : Type 0 where
  pub messages : HasRoom (length changes.messages) keep.messages
  pub parts : HasRoom (length changes.parts) keep.parts
  pub references : HasRoom (length changes.references) keep.references
  pub handsets : HasRoom (length changes.handsets) keep.handsets
  pub reports : HasRoom (length changes.reports) keep.reports
  pub priorities : HasRoom (length changes.priorities) keep.priorities
  pub bars : HasRoom (length changes.bars) keep.bars

-- What contracts see of it. It is honest at all times, and it is never closed.
abbrev pub state_of : MemoryKeep → KeepState Rows
state_of keep = record {
  is_honest = ⊤;
  holds = λ rows. rows_in keep ≡ rows;
  is_closed = ⊥;
  refusals = keep.refusals;
}
