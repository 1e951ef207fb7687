-- The newest row that changes put and leave, the oldest change first.
use Rattle.std.specs.Prelude.{ℕ, ◌==◌, ◌&&◌, ◌/◌, ◌%◌, not, Bool, true, false, if◌then◌else◌, List, [], ◌∷◌, Option, Some, None}
use Rattle.sms_centre_rows.specs.declared.messages.part.PartRow.{PartRow}
use Rattle.sms_centre_rows.specs.messages.Messages.{part_key}
use Rattle.sms_centre_rows.specs.declared.reports.report.ReportRow.{ReportRow}
use Rattle.sms_centre_rows.specs.reports.Reports.{report_key}
use Rattle.sms_centre_rows.specs.declared.waiting.revision.Revision.{Revision}
use Rattle.sms_centre_rows.specs.declared.waiting.revision.Revision.TheVariants.{Put, Amend, Remove}
use Rattle.sms_centre_spec.specs.declared.rows.Changes.{Changes}
use Rattle.sms_centre_spec.specs.octets.OctetsAt.{part_octets, report_octets}

-- the one, or else the other
abbrev pub first_of : {A : Type 0} → Option A → Option A → Option A
first_of (Some x) other = Some x
first_of None other = other

module _ {A : Type 0} (key : A → ℕ) where
  -- another row takes the place of that of the key, or it is removed
  abbrev pub replaces : ℕ → Revision A → Bool
  replaces n (Put x) = key x == n
  replaces n (Amend m progress) = false
  replaces n (Remove m) = m == n

  -- the row of the key stays
  abbrev pub stays : ℕ → List (Revision A) → Bool
  stays n [] = true
  stays n (c ∷ cs) = not (replaces n c) && stays n cs

  module _ (is : A → Bool) where
    -- the row that the change puts, if it is such a one and the changes after it leave it
    abbrev pub put_by : Revision A → List (Revision A) → Option A
    put_by (Put x) later = if is x && stays (key x) later then Some x else None
    put_by (Amend m progress) later = None
    put_by (Remove m) later = None

    -- the newest such row
    abbrev pub newest : List (Revision A) → Option A
    newest [] = None
    newest (c ∷ cs) = first_of (newest cs) (put_by c cs)

-- a part is asked for by its key, a report by its message
abbrev pub is_part : ℕ → PartRow → Bool
is_part n p = part_key p == n

abbrev pub is_report : ℕ → ReportRow → Bool
is_report id r = r.id == id

-- The octets that the changes put under a key, and leave. Number 0 is the status report of the message, any other number its part.
abbrev pub put_octets : Changes → ℕ → Option (List ℕ)
put_octets changes n = if n % 256 == 0 then report_octets (newest report_key (is_report (n / 256)) changes.reports)
    else part_octets (newest part_key (is_part n) changes.parts)
