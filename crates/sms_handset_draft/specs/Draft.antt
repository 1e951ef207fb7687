-- A handset, and a handset in the middle of an event. It has its rows, all that a restart forgets, and the outcome of
-- the event so far. All that a stage of an event does, it does by the moves below.
use Rattle.std.specs.Prelude.{length, ℕ, List, Bool, Option, [], true, None, unwrap_or, ◌∷◌, ◌++◌, Some}
use Rattle.sms_base.specs.declared.carried.Carried.{Carried}
use Rattle.sms_base.specs.declared.holder.Holder.{Holder}
use Rattle.sms_base.specs.declared.carried.Kind.{Kind}
use Rattle.sms_rows.specs.declared.table.change.Change.{Change}
use Rattle.sms_rows.specs.table.Table.{all_applied, put, without}
use Rattle.sms_rows.specs.declared.table.change.Change.TheVariants.{Put, Remove}
use Rattle.sms_control.specs.declared.link_state.LinkState.{LinkState}
use Rattle.sms_control.specs.LinkStep.{fresh}
use Rattle.sms_link.specs.declared.outgoing.Outgoing.{Outgoing}
use Rattle.sms_link.specs.declared.ending.Side.TheVariants.{Handset as HandsetSide}
use Rattle.sms_link.specs.LinkTurn.{LinkOf, Turn, replied, begun}
use Rattle.sms_handset_rows.specs.declared.inbox.entry.Entry.{Entry}
use Rattle.sms_handset_rows.specs.declared.inbox.last_accepted.LastAccepted.{LastAccepted}
use Rattle.sms_handset_rows.specs.declared.inbox.discarded_group.DiscardedGroup.{DiscardedGroup}
use Rattle.sms_handset_rows.specs.inbox.Keys.{entry_key, last_key, mark_key}
use Rattle.sms_handset_rows.specs.declared.outbox.notice.Notice.{Notice}
use Rattle.sms_handset_rows.specs.declared.outbox.out_entry.OutEntry.{OutEntry}
use Rattle.sms_handset_rows.specs.outbox.Keys.{out_key}
use Rattle.sms_handset_draft.specs.declared.rows.Rows.{Rows}
use Rattle.sms_handset_draft.specs.declared.stored.Stored.{Stored}
use Rattle.sms_handset_draft.specs.declared.counters.Counters.{Counters}

-- ---- a handset between two events

pub record Core : Type 0 where
  pub rows : Rows
  -- the greatest moment that it was given
  pub moment : ℕ
  pub links : LinkState
  -- what the transaction that it began carries, and what its answer in the centre's transaction carries
  pub under_way : Option Carried
  pub answered : Option Carried
  -- how many RP-SMMA are wanted that were not sent yet, and those that were sent and have not ended
  pub notices_wanted : ℕ
  pub notices : List Notice
  -- rows that are Sending may be left from before a restart
  pub is_recovered : Bool

-- the handset that starts with these rows
abbrev pub recovered : Rows → Core
recovered rows = record {
  rows = rows;
  moment = rows.setup.start;
  links = fresh;
  under_way = None;
  answered = None;
  notices_wanted = 0;
  notices = [];
  is_recovered = true;
}

-- How many rows the memory of each list holds: a plan makes room first, so that adopting it takes no memory.
pub record Room : Type 0 where
  pub entries : ℕ
  pub last : ℕ
  pub outbox : ℕ
  pub marks : ℕ

-- How many groups are open, and how many the memory of their index holds.
pub record GroupRoom : Type 0 where
  pub taken : ℕ
  pub capacity : ℕ

pub record HandsetOf : Type 0 where
  pub core : Core
  pub room : Room
  pub groups : GroupRoom

-- the rows that are kept
abbrev pub rows_of : Stored → Rows
rows_of s = record {
  entries = s.entries.rows;
  last = s.last.rows;
  outbox = s.outbox.rows;
  marks = s.marks.rows;
  counters = s.counters;
  setup = s.setup;
}

abbrev pub room_of : Stored → Room
room_of s = record { entries = s.entries.capacity; last = s.last.capacity; outbox = s.outbox.capacity; marks = s.marks.capacity }

abbrev pub group_room_of : Stored → GroupRoom
group_room_of s = record {
  taken = length s.groups.groups;
  capacity = s.groups.capacity;
}

-- ---- changes

-- what was put into and removed from each list, in order, and the counters if they changed
pub record Changes : Type 0 where
  pub entries : List (Change Entry)
  pub last : List (Change LastAccepted)
  pub outbox : List (Change OutEntry)
  pub marks : List (Change DiscardedGroup)
  pub counters : Option Counters

abbrev pub no_changes : Changes
no_changes = record { entries = []; last = []; outbox = []; marks = []; counters = None }

-- the rows after the changes
abbrev pub rows_after : Changes → Rows → Rows
rows_after changes rows = record {
  entries = all_applied entry_key changes.entries rows.entries;
  last = all_applied last_key changes.last rows.last;
  outbox = all_applied out_key changes.outbox rows.outbox;
  marks = all_applied mark_key changes.marks rows.marks;
  counters = unwrap_or changes.counters rows.counters;
  setup = rows.setup;
}

-- ---- a handset in the middle of an event

pub record Draft : Type 0 where
  pub rows : Rows
  pub moment : ℕ
  pub links : LinkState
  pub under_way : Option Carried
  pub answered : Option Carried
  pub notices_wanted : ℕ
  pub notices : List Notice
  pub is_recovered : Bool
  -- the outcome of the event so far
  pub changes : Changes
  pub frames : List Outgoing

abbrev pub draft_of : Core → Draft
draft_of c = record {
  rows = c.rows;
  moment = c.moment;
  links = c.links;
  under_way = c.under_way;
  answered = c.answered;
  notices_wanted = c.notices_wanted;
  notices = c.notices;
  is_recovered = c.is_recovered;
  changes = no_changes;
  frames = [];
}

abbrev pub core_of : Draft → Core
core_of d = record {
  rows = d.rows;
  moment = d.moment;
  links = d.links;
  under_way = d.under_way;
  answered = d.answered;
  notices_wanted = d.notices_wanted;
  notices = d.notices;
  is_recovered = d.is_recovered;
}

-- ---- moves: changes of rows, each with what it leaves in the list

abbrev pub put_entry : Entry → Draft → Draft
put_entry e d = record d {
  rows = record d.rows { entries = put entry_key e d.rows.entries };
  changes = record d.changes { entries = d.changes.entries ++ Put e ∷ [] };
}

abbrev pub remove_entry : ℕ → Draft → Draft
remove_entry n d = record d {
  rows = record d.rows { entries = without entry_key n d.rows.entries };
  changes = record d.changes { entries = d.changes.entries ++ Remove n ∷ [] };
}

abbrev pub put_last : LastAccepted → Draft → Draft
put_last l d = record d {
  rows = record d.rows { last = put last_key l d.rows.last };
  changes = record d.changes { last = d.changes.last ++ Put l ∷ [] };
}

abbrev pub put_out : OutEntry → Draft → Draft
put_out o d = record d {
  rows = record d.rows { outbox = put out_key o d.rows.outbox };
  changes = record d.changes { outbox = d.changes.outbox ++ Put o ∷ [] };
}

abbrev pub remove_out : ℕ → Draft → Draft
remove_out n d = record d {
  rows = record d.rows { outbox = without out_key n d.rows.outbox };
  changes = record d.changes { outbox = d.changes.outbox ++ Remove n ∷ [] };
}

abbrev pub put_mark : DiscardedGroup → Draft → Draft
put_mark m d = record d {
  rows = record d.rows { marks = put mark_key m d.rows.marks };
  changes = record d.changes { marks = d.changes.marks ++ Put m ∷ [] };
}

abbrev pub remove_mark : ℕ → Draft → Draft
remove_mark n d = record d {
  rows = record d.rows { marks = without mark_key n d.rows.marks };
  changes = record d.changes { marks = d.changes.marks ++ Remove n ∷ [] };
}

abbrev pub put_counters : Counters → Draft → Draft
put_counters c d = record d { rows = record d.rows { counters = c }; changes = record d.changes { counters = Some c } }

-- ---- moves: the link

-- the handset's end of the link
abbrev pub link_of : Draft → LinkOf
link_of d = record { side = HandsetSide; links = d.links; under_way = d.under_way; answered = d.answered }

-- the link did that
abbrev pub with_turn : Turn → Draft → Draft
with_turn turn d = record d {
  links = turn.link.links;
  under_way = turn.link.under_way;
  answered = turn.link.answered;
  frames = d.frames ++ turn.out.frames;
}

-- the answer in the transaction that the centre began
abbrev pub reply : Kind → ℕ → Holder → List ℕ → Draft → Draft
reply kind reference tag unit d = with_turn (replied d.moment kind reference tag unit (link_of d)) d

-- a transaction of this side
abbrev pub begin : ℕ → Holder → List ℕ → Draft → Draft
begin reference tag unit d = with_turn (begun d.moment reference tag unit (link_of d)) d
