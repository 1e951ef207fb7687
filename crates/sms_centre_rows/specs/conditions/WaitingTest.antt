-- Whether all that waits holds references that were given where it waits, and no two of one handset hold the same. Places of handsets
-- are found by the keys of their digits.
use Rattle.std.specs.Prelude.{◌≡◌, ℕ, ◌&&◌, ◌++◌, nat_eq, not, is_some, filter_map, List, [], ◌∷◌, Bool, true, false, if◌then◌else◌, Option, Some, None}
use Rattle.std.specs.List.{list_all}
use Rattle.std.specs.Map.{lookup}
use Rattle.std.specs.Option.{option_map}
use Rattle.sms_rows.specs.table.Keys.{digits_key, pair_key}
use Rattle.sms_rows.specs.table.Table.{row_at}
use Rattle.sms_centre_rows.specs.declared.messages.message.MessageRow.{MessageRow}
use Rattle.sms_centre_rows.specs.declared.messages.part.PartRow.{PartRow}
use Rattle.sms_centre_rows.specs.messages.Messages.{is_pending, message_at}
use Rattle.sms_centre_rows.specs.declared.reports.report.ReportRow.{ReportRow}
use Rattle.sms_centre_rows.specs.reports.Reports.{is_open_status, status_reference}
use Rattle.sms_centre_rows.specs.declared.waiting.handset.HandsetRow.{HandsetRow}
use Rattle.sms_centre_rows.specs.declared.waiting.reference.ReferenceRow.{ReferenceRow}
use Rattle.sms_centre_rows.specs.waiting.Keys.{reference_key}
use Rattle.sms_centre_rows.specs.conditions.Differing.{differ}
use Rattle.sms_centre_rows.specs.conditions.AllocationTest.{number_key}

-- ---- places of handsets

-- the place of the last one whose digits have that key
abbrev pub place_from : ℕ → List HandsetRow → Option ℕ → Option ℕ
place_from key [] place = place
place_from key (h ∷ hs) place = place_from key hs (if nat_eq key (number_key h) then Some h.place else place)

-- the entries give the places of these handsets
abbrev pub Places : List (ℕ × ℕ) → List HandsetRow → Type 0
Places entries handsets = (key : ℕ) → lookup (nat_eq key) entries ≡ place_from key handsets None

-- the key of a reference at the handset of that number
abbrev pub hold_at : List (ℕ × ℕ) → ℕ → List ℕ → Option ℕ
hold_at entries reference number = option_map (λ (place : ℕ). pair_key place reference) (lookup (nat_eq (digits_key number)) entries)

-- ---- where a part or a report waits

abbrev pub part_waits_at : PartRow → Option MessageRow → Option (List ℕ)
part_waits_at p None = None
part_waits_at p (Some m) = if not p.progress.is_done && is_pending m then Some m.handset else None

abbrev pub report_waits_at : ReportRow → Option MessageRow → Option (List ℕ)
report_waits_at r None = None
report_waits_at r (Some m) = if is_open_status r then Some m.source.digits else None

-- ---- the reference that it holds

abbrev pub is_row : List ReferenceRow → Option ℕ → Bool
is_row references None = false
is_row references (Some key) = is_some (row_at reference_key key references)

-- where it waits, its reference was given there
abbrev pub was_given : List (ℕ × ℕ) → List ReferenceRow → ℕ → Option (List ℕ) → Bool
was_given entries references reference None = true
was_given entries references reference (Some number) = is_row references (hold_at entries reference number)

abbrev pub hold_of : List (ℕ × ℕ) → ℕ → Option (List ℕ) → Option ℕ
hold_of entries reference None = None
hold_of entries reference (Some number) = hold_at entries reference number

abbrev pub part_given : List (ℕ × ℕ) → List ReferenceRow → List MessageRow → PartRow → Bool
part_given entries references messages p = was_given entries references p.reference (part_waits_at p (message_at p.id messages))

abbrev pub part_hold : List (ℕ × ℕ) → List MessageRow → PartRow → Option ℕ
part_hold entries messages p = hold_of entries p.reference (part_waits_at p (message_at p.id messages))

abbrev pub report_given : List (ℕ × ℕ) → List ReferenceRow → List MessageRow → ReportRow → Bool
report_given entries references messages r = was_given entries references (status_reference r.kind) (report_waits_at r (message_at r.id messages))

abbrev pub report_hold : List (ℕ × ℕ) → List MessageRow → ReportRow → Option ℕ
report_hold entries messages r = hold_of entries (status_reference r.kind) (report_waits_at r (message_at r.id messages))

-- ---- all of it

-- the keys of all references that are held
abbrev pub holds : List (ℕ × ℕ) → List MessageRow → List PartRow → List ReportRow → List ℕ
holds entries messages parts reports = filter_map (part_hold entries messages) parts ++ filter_map (report_hold entries messages) reports

pub record WaitingPass (entries : List (ℕ × ℕ)) (messages : List MessageRow) (references : List ReferenceRow) (parts : List PartRow)
    (reports : List ReportRow) : Type 0 where
  pub each_part : list_all (part_given entries references messages) parts ≡ true
  pub each_report : list_all (report_given entries references messages) reports ≡ true
  pub apart : differ (holds entries messages parts reports) ≡ true
