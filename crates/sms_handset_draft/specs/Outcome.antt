-- The outcome of an event: what it changes and sends, and all that a restart forgets as it will be.
use Rattle.std.specs.Prelude.{ℕ, List, Bool, Option}
use Rattle.sms_base.specs.declared.carried.Carried.{Carried}
use Rattle.sms_rows.specs.table.TableDraft.{FitsIn}
use Rattle.sms_control.specs.declared.link_state.LinkState.{LinkState}
use Rattle.sms_link.specs.declared.outgoing.Outgoing.{Outgoing}
use Rattle.sms_handset_rows.specs.declared.outbox.notice.Notice.{Notice}
use Rattle.sms_handset_draft.specs.declared.finished.Finished.{Finished}
use Rattle.sms_handset_draft.specs.declared.rows.Changes.{Changes as SettledChanges}
use Rattle.sms_handset_draft.specs.declared.rows.Rows.{Rows}
use Rattle.sms_handset_draft.specs.Draft.{Changes, Room, Draft}

-- the changes of the rows, without the memory that they bring
abbrev pub changes_in : SettledChanges → Changes
changes_in c = record {
  entries = c.entries.changes;
  last = c.last.changes;
  outbox = c.outbox.changes;
  marks = c.marks.changes;
  counters = c.counters;
}

-- how many rows that memory holds
abbrev pub reserve_in : SettledChanges → Room
reserve_in c = record { entries = c.entries.reserve; last = c.last.reserve; outbox = c.outbox.reserve; marks = c.marks.reserve }

-- the outcome of an event
pub record Outcome : Type 0 where
  pub changes : Changes
  pub frames : List Outgoing
  pub moment : ℕ
  pub links : LinkState
  pub under_way : Option Carried
  pub answered : Option Carried
  pub notices_wanted : ℕ
  pub notices : List Notice
  pub is_recovered : Bool

abbrev pub outcome_of : Draft → Outcome
outcome_of d = record {
  changes = d.changes;
  frames = d.frames;
  moment = d.moment;
  links = d.links;
  under_way = d.under_way;
  answered = d.answered;
  notices_wanted = d.notices_wanted;
  notices = d.notices;
  is_recovered = d.is_recovered;
}

-- the same of an event that is finished
abbrev pub outcome_in : Finished → Outcome
outcome_in f = record {
  changes = changes_in f.changes;
  frames = f.frames;
  moment = f.moment;
  links = f.link.links;
  under_way = f.link.under_way;
  answered = f.link.answered;
  notices_wanted = f.notices_wanted;
  notices = f.notices.rows;
  is_recovered = f.is_recovered;
}

-- The changes fit the memory of the lists, with that which they bring.
pub record HaveRoom (changes : SettledChanges) (rows : Rows) (room : Room) : Type 0 where
  pub entries : FitsIn changes.entries (record { rows = rows.entries; capacity = room.entries })
  pub last : FitsIn changes.last (record { rows = rows.last; capacity = room.last })
  pub outbox : FitsIn changes.outbox (record { rows = rows.outbox; capacity = room.outbox })
  pub marks : FitsIn changes.marks (record { rows = rows.marks; capacity = room.marks })
