-- A centre without some messages, between two events and in the middle of one.
use Rattle.std.specs.Prelude.{◌≡◌, ℕ, ◌+◌, ◌<◌, ◌≤◌, List, [], Bool, true, false, Option, Some, None}
use Rattle.sms_base.specs.declared.carried.Carried.{Carried}
use Rattle.sms_base.specs.declared.holder.Holder.{Holder}
use Rattle.sms_base.specs.declared.holder.Holder.TheVariants.{Part, Report, Entry, Memory}
use Rattle.sms_centre_rows.specs.declared.waiting.handset_link.HandsetLink.{HandsetLink}
use Rattle.sms_centre_spec.specs.declared.event.CentreEvent.{CentreEvent}
use Rattle.sms_centre_spec.specs.declared.event.CentreEvent.TheVariants.{Submit, Query, Cancel, Bound, Unbound, DeliverAnswered, Frame, LinkUp, LinkDown}
use Rattle.sms_centre_spec.specs.declared.event.CentreEvent.TheVariants.{Ordered, Tick}
use Rattle.sms_centre_spec.specs.Numbers.{id_in}
use Rattle.sms_centre_spec.specs.SoundCore.{IsSoundCore}
use Rattle.sms_base.specs.Among.{Among}
use Rattle.sms_rows.specs.table.Table.{Rises}
use Rattle.sms_centre_rows.specs.declared.messages.message.MessageRow.{MessageRow}
use Rattle.sms_centre_rows.specs.declared.messages.part.PartRow.{PartRow}
use Rattle.sms_centre_rows.specs.messages.Bars.{with_bars}
use Rattle.sms_centre_rows.specs.messages.Messages.{is_pending, message_key, next_id, part_key, priority_key}
use Rattle.sms_centre_rows.specs.messages.SplitReferences.{is_among}
use Rattle.sms_centre_rows.specs.declared.reports.report.ReportRow.{ReportRow}
use Rattle.sms_centre_rows.specs.reports.Receipts.{Session}
use Rattle.sms_centre_rows.specs.reports.Reports.{next_place, report_key}
use Rattle.sms_centre_spec.specs.Draft.{Core, Draft, Store, core_of, messages_in, parts_in, priorities_in, reports_in}
use Rattle.sms_centre_spec.specs.forgetting.Forgetting.{MayGo, claims_left, kept, part_id, report_id, rows_without}

abbrev pub core_without : (ℕ → Bool) → Core → Core
core_without goes c = record { rows = rows_without goes c.rows; moment = c.moment; links = c.links; sessions = c.sessions }

-- the changes are the same, and what goes is kept as bars
abbrev pub store_without : (ℕ → Bool) → Store → Store
store_without goes s = record {
  setup = s.setup;
  moment = s.moment;
  messages = record {
    messages = record { base = kept message_key goes s.messages.messages.base; news = s.messages.messages.news };
    parts = record { base = kept part_id goes s.messages.parts.base; news = s.messages.parts.news };
    priorities = record { base = kept priority_key goes s.messages.priorities.base; news = s.messages.priorities.news };
  };
  allocations = s.allocations;
  reports = record { base = kept report_id goes s.reports.base; news = s.reports.news };
  bars = record { base = with_bars (claims_left goes s.messages.messages.base s.messages.parts.base) s.bars.base; news = s.bars.news };
}

-- and so are frames, receipts and the answer
abbrev pub draft_without : (ℕ → Bool) → Draft → Draft
draft_without goes d = record { store = store_without goes d.store; links = d.links; bindings = d.bindings; answer = d.answer }

-- the messages of these numbers may be forgotten: no number is given later, and no session has yet to answer one's receipt
pub record CanForget (goes : ℕ → Bool) (c : Core) : Type 0 where
  pub may : MayGo goes c.rows
  pub given : (id : ℕ) → goes id ≡ true → id + 1 < next_id c.rows.messages
  pub answered : (s : Session) (id : ℕ) → Among s c.sessions → is_among id s.unanswered ≡ true → goes id ≡ false

-- what is looked up in the middle of an event is the same
pub record Stays (goes : ℕ → Bool) (s : Store) : Type 0 where
  pub messages : messages_in (store_without goes s) ≡ kept message_key goes (messages_in s)
  pub parts : parts_in (store_without goes s) ≡ kept part_id goes (parts_in s)
  pub reports : reports_in (store_without goes s) ≡ kept report_id goes (reports_in s)
  pub priorities : priorities_in (store_without goes s) ≡ kept priority_key goes (priorities_in s)
  pub message_keys : Rises message_key (messages_in s)
  pub part_keys : Rises part_key (parts_in s)
  pub report_keys : Rises report_key (reports_in s)
  pub priority_keys : Rises priority_key (priorities_in s)
  pub ended : (m : MessageRow) → Among m (messages_in s) → goes m.id ≡ true → is_pending m ≡ false
  pub closed : (r : ReportRow) → Among r (reports_in s) → goes r.id ≡ true → r.progress.is_done ≡ true
  pub place : (r : ReportRow) → Among r (reports_in s) → goes r.id ≡ true → r.place + 1 < next_place (reports_in s)
  -- what goes was there before the event
  pub old : (m : MessageRow) → Among m (messages_in s) → goes m.id ≡ true → Among m s.messages.messages.base
  pub few : (p : PartRow) → Among p (parts_in s) → goes p.id ≡ true → p.number ≤ 20
  -- and so was what it lays claim to, and no bar was put since
  pub left : claims_left goes (messages_in s) (parts_in s) ≡ claims_left goes s.messages.messages.base s.messages.parts.base
  pub bars : s.bars.news ≡ []

-- the same frames, receipts, answer and changes, and behind it the same centre without those messages
pub record Same (goes : ℕ → Bool) (small large : Draft) : Type 0 where
  pub draft : small ≡ draft_without goes large
  pub stays : Stays goes large.store
  pub core : core_of small ≡ core_without goes (core_of large)

-- it asks for none of these numbers
abbrev pub AsksOther : (ℕ → Bool) → CentreEvent → Type 0
AsksOther goes (Submit account m) = Unit {0}
AsksOther goes (Query account q) = (id : ℕ) → id_in q.message_id ≡ Some id → goes id ≡ false
AsksOther goes (Cancel account q) = (id : ℕ) → id_in q.message_id ≡ Some id → goes id ≡ false
AsksOther goes (Bound session account receives) = Unit {0}
AsksOther goes (Unbound session) = Unit {0}
AsksOther goes (DeliverAnswered session id b) = Unit {0}
AsksOther goes (Frame handset octets tag) = Unit {0}
AsksOther goes (LinkUp handset) = Unit {0}
AsksOther goes (LinkDown handset) = Unit {0}
AsksOther goes (Ordered order id) = goes id ≡ false
AsksOther goes (Tick now) = Unit {0}

-- the small centre is the large one without messages that may go; both are sound
pub record Forgot (goes : ℕ → Bool) (small large : Core) : Type 0 where
  pub without : small ≡ core_without goes large
  pub sound : IsSoundCore large
  pub left : IsSoundCore small
  pub may : MayGo goes large.rows
  pub given : (id : ℕ) → goes id ≡ true → id + 1 < next_id large.rows.messages

-- the same is sent and answered, and behind it one is still the other without those messages
pub record InStep (goes : ℕ → Bool) (small large : Draft) : Type 0 where
  pub frames : small.links.frames ≡ large.links.frames
  pub deliveries : small.bindings.deliveries ≡ large.bindings.deliveries
  pub answer : small.answer ≡ large.answer
  pub behind : Forgot goes (core_of small) (core_of large)

-- no message of these numbers is under way
abbrev pub IsAwayTag : (ℕ → Bool) → Holder → Type 0
IsAwayTag goes (Part id number) = goes id ≡ false
IsAwayTag goes (Report id) = goes id ≡ false
IsAwayTag goes (Entry n) = Unit {0}
IsAwayTag goes (Memory n) = Unit {0}

abbrev pub IsAway : (ℕ → Bool) → Option Carried → Type 0
IsAway goes None = Unit {0}
IsAway goes (Some transfer) = IsAwayTag goes transfer.tag

abbrev pub AreAway : (ℕ → Bool) → Core → Type 0
AreAway goes c = (l : HandsetLink) → Among l c.links → IsAway goes l.near_end.under_way
