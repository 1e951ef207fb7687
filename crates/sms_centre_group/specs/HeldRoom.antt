-- The changes that are held, and room for those of one event more.
use Rattle.std.specs.Prelude.{ℕ, ◌+◌, ◌≤◌, length, vec_capacity, Vec}
use Rattle.std.specs.declared.alloc.Global.{Global}
use Rattle.sms_centre_spec.specs.declared.rows.Changes.{Changes}
use Rattle.sms_centre_group.specs.declared.held_changes.HeldChanges.{HeldChanges}

-- the vector holds that many items more without taking memory
abbrev pub HasVecRoom : {A : Type 0} → ℕ → Vec A Global → Type 0
HasVecRoom n v = length v.items + n ≤ vec_capacity v

abbrev pub changes_in : HeldChanges → Changes
changes_in held = record {
  messages = held.messages.items;
  parts = held.parts.items;
  references = held.references.items;
  handsets = held.handsets.items;
  reports = held.reports.items;
  priorities = held.priorities.items;
  bars = held.bars.items;
}

-- the changes are held without taking memory
pub record HasRoomFor (changes : Changes) (held : HeldChanges) : Type 0 where
  pub messages : HasVecRoom (length changes.messages) held.messages
  pub parts : HasVecRoom (length changes.parts) held.parts
  pub references : HasVecRoom (length changes.references) held.references
  pub handsets : HasVecRoom (length changes.handsets) held.handsets
  pub reports : HasVecRoom (length changes.reports) held.reports
  pub priorities : HasVecRoom (length changes.priorities) held.priorities
  pub bars : HasVecRoom (length changes.bars) held.bars
