-- A plan: what an event changes and sends, and all that a restart forgets as it will be. Adopting it puts it in.
use Rattle.std.specs.Prelude.{ℕ, List, Bool, Option, ◌≡◌, ◌+◌, ◌≤◌, max, length, Result, Ok, Err, Some, None}
use Rattle.sms_base.specs.declared.holder.Holder.{Holder}
use Rattle.sms_handset_rows.specs.declared.inbox.open_group.Regrouping.{Regrouping}
use Rattle.sms_handset_rows.specs.inbox.Slots.{slots_taken}
use Rattle.sms_handset_rows.specs.inbox.OpenIndex.{opening}
use Rattle.sms_handset_draft.specs.Draft.{Room, Draft, Core, rows_after, HandsetOf}
use Rattle.sms_handset_draft.specs.Outcome.{Outcome, outcome_of}
use Rattle.sms_handset_draft.specs.Regrouping.{IsRegrouped}
use Rattle.sms_handset.specs.declared.refusal.PlanError.{PlanError}
use Rattle.sms_handset.specs.declared.refusal.PlanError.TheVariants.{Refused, NoMemory}
use Rattle.sms_handset.specs.declared.refusal.Refusal.{Refusal}
use Rattle.sms_handset.specs.Accepted.{StoresAccepted}
use Rattle.sms_handset.specs.declared.event.HandsetEvent.{HandsetEvent}
use Rattle.sms_handset.specs.declared.event.HandsetEvent.TheVariants.{Frame, Tick, Write, Delete, Discard}
use Rattle.sms_handset_draft.specs.declared.rows.Rows.{Rows}

-- the handset with the outcome put in
abbrev pub adopted : Outcome → Core → Core
adopted o c = record {
  rows = rows_after o.changes c.rows;
  moment = o.moment;
  links = o.links;
  under_way = o.under_way;
  answered = o.answered;
  notices_wanted = o.notices_wanted;
  notices = o.notices;
  is_recovered = o.is_recovered;
}

-- the outcome, what becomes of what is kept beside the rows, and memory for new rows and for a new group
pub record PlanOf : Type 0 where
  pub outcome : Outcome
  pub regrouping : Regrouping
  -- how many slots are taken then
  pub taken : ℕ
  pub reserve : Room
  pub reserve_groups : ℕ

-- The plan's changes fit the memory of the lists and of the index, with that which the plan brings. Its change of the
-- open groups and its count of the slots are those of its rows.
pub record FitsTheHandset (plan : PlanOf) (s : HandsetOf) : Type 0 where
  pub entries : length s.core.rows.entries + length plan.outcome.changes.entries ≤ max s.room.entries plan.reserve.entries
  pub last : length s.core.rows.last + length plan.outcome.changes.last ≤ max s.room.last plan.reserve.last
  pub outbox : length s.core.rows.outbox + length plan.outcome.changes.outbox ≤ max s.room.outbox plan.reserve.outbox
  pub marks : length s.core.rows.marks + length plan.outcome.changes.marks ≤ max s.room.marks plan.reserve.marks
  pub groups : s.groups.taken + opening plan.regrouping ≤ max s.groups.capacity plan.reserve_groups
  pub index : IsRegrouped plan.regrouping s.core.rows (rows_after plan.outcome.changes s.core.rows)
  pub slots : plan.taken ≡ slots_taken (rows_after plan.outcome.changes s.core.rows).entries

-- The plan has the outcome of the event that leads to the draft, and fits the handset.
pub record IsPlanOf (d : Draft) (s : HandsetOf) (plan : PlanOf) : Type 0 where
  pub outcome : plan.outcome ≡ outcome_of d
  pub fits : FitsTheHandset plan s

-- What was wanted, done: refused alike, or want of memory for what would have been done.
abbrev pub Acts : Result (Unit {0}) PlanError → Draft → Result Draft Refusal → Type 0
Acts (Ok done) d wanted = wanted ≡ Ok d
Acts (Err (Refused refusal)) d wanted = wanted ≡ Err refusal
Acts (Err NoMemory) d wanted = (e : Draft) × (wanted ≡ Ok e)

-- Whether it is refused, and why.
abbrev pub Judges : Option Refusal → Result Draft Refusal → Type 0
Judges None wanted = (d : Draft) × (wanted ≡ Ok d)
Judges (Some refusal) wanted = wanted ≡ Err refusal

-- What was wanted, planned.
abbrev pub Plans : Result PlanOf PlanError → HandsetOf → Result Draft Refusal → Type 0
Plans (Ok plan) s wanted = (d : Draft) × ((wanted ≡ Ok d) × IsPlanOf d s plan)
Plans (Err (Refused refusal)) s wanted = wanted ≡ Err refusal
Plans (Err NoMemory) s wanted = (d : Draft) × (wanted ≡ Ok d)

-- What the plan accepts is stored in the rows that it leads to.
abbrev pub Stores : HandsetOf → PlanOf → Type 0
Stores s plan = StoresAccepted s.core.rows.marks plan.outcome.changes (rows_after plan.outcome.changes s.core.rows)

-- ---- a fact of events of one kind

abbrev pub OfFrame : HandsetEvent → (List ℕ → Option Holder → Type 0) → Type 0
OfFrame (Frame octets tag) P = P octets tag
OfFrame (Tick now) P = Unit {0}
OfFrame (Write text to report) P = Unit {0}
OfFrame (Delete entry) P = Unit {0}
OfFrame (Discard entry) P = Unit {0}

abbrev pub OfTick : HandsetEvent → (ℕ → Type 0) → Type 0
OfTick (Frame octets tag) P = Unit {0}
OfTick (Tick now) P = P now
OfTick (Write text to report) P = Unit {0}
OfTick (Delete entry) P = Unit {0}
OfTick (Discard entry) P = Unit {0}

abbrev pub OfWrite : HandsetEvent → (List ℕ → List ℕ → Bool → Type 0) → Type 0
OfWrite (Frame octets tag) P = Unit {0}
OfWrite (Tick now) P = Unit {0}
OfWrite (Write text to report) P = P text to report
OfWrite (Delete entry) P = Unit {0}
OfWrite (Discard entry) P = Unit {0}

abbrev pub OfDelete : HandsetEvent → (ℕ → Type 0) → Type 0
OfDelete (Frame octets tag) P = Unit {0}
OfDelete (Tick now) P = Unit {0}
OfDelete (Write text to report) P = Unit {0}
OfDelete (Delete entry) P = P entry
OfDelete (Discard entry) P = Unit {0}

abbrev pub OfDiscard : HandsetEvent → (ℕ → Type 0) → Type 0
OfDiscard (Frame octets tag) P = Unit {0}
OfDiscard (Tick now) P = Unit {0}
OfDiscard (Write text to report) P = Unit {0}
OfDiscard (Delete entry) P = Unit {0}
OfDiscard (Discard entry) P = P entry

-- ---- a draft is the rows, revised by its changes and by nothing else

abbrev pub IsRevised : Rows → Draft → Type 0
IsRevised base d = d.rows ≡ rows_after d.changes base

abbrev pub IsRevisedIfDone : Rows → Result Draft Refusal → Type 0
IsRevisedIfDone base (Ok d) = IsRevised base d
IsRevisedIfDone base (Err refusal) = Unit {0}
