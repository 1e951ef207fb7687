-- Where the report of each message stands, by the messages.
use Rattle.std.specs.Prelude.{◌≡◌, ℕ, ◌+◌, ◌≤◌, ◌++◌, max, nat_eq, length, List, [], ◌∷◌, Option, Some, None, if◌then◌else◌}
use Rattle.std.specs.Map.{lookup}
use Rattle.sms_base.specs.Among.{Among}
use Rattle.sms_rows.specs.table.Table.{row_at}
use Rattle.sms_centre_reports.specs.declared.report_log.log.LoggedReport.{LoggedReport}

-- places under the numbers of messages, and how many messages more the memory holds
pub record PlacesOf : Type 0 where
  pub entries : List (ℕ × ℕ)
  pub room : ℕ

abbrev pub place_under : ℕ → PlacesOf → Option ℕ
place_under id places = lookup (nat_eq id) places.entries

-- that is under the message, and under all others what was there
abbrev pub IsUnder : ℕ → Option ℕ → PlacesOf → PlacesOf → Type 0
IsUnder id place old new = (other : ℕ) → place_under other new ≡ (if nat_eq id other then place else place_under other old)

-- the place of each report is under its message, and no other place is; so no two reports are of one message
pub record AreFound (reports : List LoggedReport) (places : PlacesOf) : Type 0 where
  pub each : (r : LoggedReport) → Among r reports → place_under r.id places ≡ Some r.place
  pub only : (id place : ℕ) → place_under id places ≡ Some place → Among (record { place = place; id = id }) reports

-- ---- several that go

abbrev pub message_there : Option LoggedReport → List ℕ
message_there None = []
message_there (Some r) = r.id ∷ []

-- the messages of the reports at these places
abbrev pub messages_at : (LoggedReport → ℕ) → List ℕ → List LoggedReport → List ℕ
messages_at key [] reports = []
messages_at key (n ∷ ns) reports = message_there (row_at key n reports) ++ messages_at key ns reports

-- nothing is under these messages any more, and under all others what was there
pub record HasTaken (ids : List ℕ) (old new : PlacesOf) : Type 0 where
  pub stays : (id : ℕ) → ¬ Among id ids → place_under id new ≡ place_under id old
  pub gone : (id place : ℕ) → place_under id new ≡ Some place → (place_under id old ≡ Some place) × ¬ Among id ids

-- ---- memory

-- with that much memory beside its own, so many messages more can be added without taking memory
abbrev pub HoldsMore : ℕ → ℕ → PlacesOf → Type 0
HoldsMore extra reserve places = length places.entries + extra ≤ max (length places.entries + places.room) reserve

-- it took the memory in
abbrev pub TookPlaces : ℕ → PlacesOf → PlacesOf → Type 0
TookPlaces reserve old new = max (length old.entries + old.room) reserve ≤ length old.entries + new.room
