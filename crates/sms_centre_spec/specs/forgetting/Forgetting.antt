-- What a centre forgets: messages that ended long ago and were reported, with their parts, priorities and reports. What they lay claim to
-- stays barred (3GPP TS 23.040 9.2.3.24.8).
use Rattle.std.specs.Prelude.{◌≡◌, ℕ, zero, suc, ◌+◌, ◌<◌, ◌≤◌, ◌==◌, ◌&&◌, not, nat_le, nat_lt, is_some, List, [], ◌∷◌, ◌++◌, Bool, true, false}
use Rattle.std.specs.Prelude.{if◌then◌else◌, Option, Some, None}
use Rattle.sms_base.specs.Among.{Among}
use Rattle.sms_base.specs.declared.address.Address.{Address}
use Rattle.sms_rows.specs.table.Table.{rows_from}
use Rattle.sms_centre_rows.specs.declared.messages.bar.BarRow.{BarRow}
use Rattle.sms_centre_rows.specs.declared.messages.message.MessageRow.{MessageRow}
use Rattle.sms_centre_rows.specs.declared.messages.part.PartRow.{PartRow}
use Rattle.sms_centre_rows.specs.declared.messages.claim.Claim.{Claim}
use Rattle.sms_centre_rows.specs.messages.Bars.{claims_of, with_bars}
use Rattle.sms_centre_rows.specs.messages.Messages.{is_pending, message_key, next_id, priority_key}
use Rattle.sms_centre_rows.specs.messages.SplitReferences.{held_references, is_among, is_between, last_split, next_split}
use Rattle.sms_centre_rows.specs.declared.reports.report.ReportRow.{ReportRow}
use Rattle.sms_centre_rows.specs.reports.Reports.{next_place, report_of}
use Rattle.sms_centre_spec.specs.declared.rows.Rows.{Rows}

-- ---- rows without the messages of some numbers

abbrev pub kept : {A : Type 0} → (A → ℕ) → (ℕ → Bool) → List A → List A
kept id goes [] = []
kept id goes (x ∷ xs) = if goes (id x) then kept id goes xs else x ∷ kept id goes xs

abbrev pub part_id : PartRow → ℕ
part_id p = p.id

abbrev pub report_id : ReportRow → ℕ
report_id r = r.id

-- the bars stay
abbrev pub rows_cut : (ℕ → Bool) → Rows → Rows
rows_cut goes rows = record {
  messages = kept message_key goes rows.messages;
  parts = kept part_id goes rows.parts;
  references = rows.references;
  handsets = rows.handsets;
  reports = kept report_id goes rows.reports;
  priorities = kept priority_key goes rows.priorities;
  bars = rows.bars;
  setup = rows.setup;
}

-- what those messages lay claim to
abbrev pub claims_left : (ℕ → Bool) → List MessageRow → List PartRow → List Claim
claims_left goes [] ps = []
claims_left goes (m ∷ ms) ps = (if goes m.id then claims_of m ps else []) ++ claims_left goes ms ps

-- it is kept as bars
abbrev pub bars_beside : (ℕ → Bool) → Rows → List BarRow
bars_beside goes rows = with_bars (claims_left goes rows.messages rows.parts) rows.bars

abbrev pub rows_without : (ℕ → Bool) → Rows → Rows
rows_without goes rows = record (rows_cut goes rows) { bars = bars_beside goes rows }

-- ---- which message may go

abbrev pub is_before : ℕ → Option ℕ → Bool
is_before before None = false
is_before before (Some done) = nat_lt done before

-- the moments of the last message and of the last report
abbrev pub last_submitted : ℕ → List MessageRow → ℕ
last_submitted moment [] = moment
last_submitted moment (m ∷ ms) = last_submitted m.submitted ms

abbrev pub last_made : ℕ → List ReportRow → ℕ
last_made moment [] = moment
last_made moment (r ∷ rs) = last_made r.made rs

-- its report is closed, and a later one gives the next place; or it has none
abbrev pub is_reported : List ReportRow → Option ReportRow → Bool
is_reported reports None = true
is_reported reports (Some r) = r.progress.is_done && nat_lt (r.place + 1) (next_place reports)

abbrev pub is_given : ℕ → Option ℕ → Bool
is_given reference None = false
is_given reference (Some last) = last == reference

-- the centre did not split it, or has split another of its source and handset since, under another reference
abbrev pub is_split_on : Option ℕ → Option ℕ → Bool
is_split_on None last = true
is_split_on (Some reference) last = not (is_given reference last)

abbrev pub leaves_split : MessageRow → List MessageRow → Bool
leaves_split m ms = is_split_on m.split_reference (last_split m.source m.handset None ms)

-- a later message gives the next number, and it was submitted no earlier
abbrev pub leaves_number : MessageRow → List MessageRow → Bool
leaves_number m ms = nat_lt (m.id + 1) (next_id ms) && nat_le m.submitted (last_submitted 0 ms)

-- it ended before that moment, and was reported
abbrev pub may_go : ℕ → Rows → MessageRow → Bool
may_go before rows m =
    (is_some m.state && is_before before m.done)
    && (is_reported rows.reports (report_of m.id rows.reports)
    && (leaves_split m rows.messages && leaves_number m rows.messages))

-- ---- which of so many messages from a number on may go

-- the numbers of those that pass, of the first so many
abbrev pub going : (MessageRow → Bool) → ℕ → List MessageRow → List ℕ
going goes zero ms = []
going goes (suc most) [] = []
going goes (suc most) (m ∷ ms) = if goes m then m.id ∷ going goes most ms else going goes most ms

-- of the first so many from that number on
abbrev pub going_from : (MessageRow → Bool) → ℕ → ℕ → List MessageRow → List ℕ
going_from goes from most ms = going goes most (rows_from message_key from ms)

abbrev pub is_going : ℕ → ℕ → ℕ → Rows → ℕ → Bool
is_going before from most rows id = is_among id (going_from (may_go before rows) from most rows.messages)

-- ---- what of these numbers must hold

-- of one source and handset it was split later
abbrev pub IsLaterSplit : MessageRow → MessageRow → Type 0
IsLaterSplit m w = (m.id < w.id) × ((is_between m.source m.handset w ≡ true) × (is_some w.split_reference ≡ true))

pub record MayGo (goes : ℕ → Bool) (rows : Rows) : Type 0 where
  pub ended : (m : MessageRow) → Among m rows.messages → goes m.id ≡ true → is_pending m ≡ false
  pub closed : (r : ReportRow) → Among r rows.reports → goes r.id ≡ true → r.progress.is_done ≡ true
  pub place : (r : ReportRow) → Among r rows.reports → goes r.id ≡ true → r.place + 1 < next_place rows.reports
  pub id : (m : MessageRow) → Among m rows.messages → goes m.id ≡ true → m.id + 1 < next_id rows.messages
  pub later : (m : MessageRow) (n : ℕ) → Among m rows.messages → goes m.id ≡ true → m.split_reference ≡ Some n
      → (w : MessageRow) × (Among w rows.messages × IsLaterSplit m w)

-- No moment of theirs is later than that of the last message, or of the last report. Time never decreases in a run, so it is so of all
-- rows that a run made.
pub record AreNoLater (goes : ℕ → Bool) (rows : Rows) : Type 0 where
  pub submitted : (m : MessageRow) → Among m rows.messages → goes m.id ≡ true → m.submitted ≤ last_submitted 0 rows.messages
  pub made : (r : ReportRow) → Among r rows.reports → goes r.id ≡ true → r.made ≤ last_made 0 rows.reports

-- ---- the references of a source and a handset that these rows bar

abbrev pub held_in : Address → List ℕ → Rows → List ℕ
held_in source handset rows = held_references source handset rows.bars rows.messages

abbrev pub next_split_in : Address → List ℕ → Rows → Option ℕ
next_split_in source handset rows = next_split source handset rows.bars rows.messages rows.parts

-- ---- no reference is there twice

abbrev pub NoneTwice : List ℕ → Type 0
NoneTwice [] = Unit {0}
NoneTwice (n ∷ ns) = (is_among n ns ≡ false) × NoneTwice ns
