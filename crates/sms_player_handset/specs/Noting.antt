-- What is noted of an event of a handset, change by change and frame by frame.
use Rattle.std.specs.Prelude.{ℕ, List, [], ◌∷◌, ◌++◌, if◌then◌else◌, is_some, not}
use Rattle.sms_rows.specs.declared.table.change.Change.{Change}
use Rattle.sms_rows.specs.declared.table.change.Change.TheVariants.{Put, Remove}
use Rattle.sms_rows.specs.table.Table.{row_at}
use Rattle.sms_handset_rows.specs.declared.inbox.entry.Entry.{Entry}
use Rattle.sms_handset_rows.specs.declared.inbox.last_accepted.LastAccepted.{LastAccepted}
use Rattle.sms_link.specs.declared.outgoing.Outgoing.{Outgoing}
use Rattle.sms_handset_rows.specs.declared.outbox.out_entry.OutEntry.{OutEntry}
use Rattle.sms_handset_rows.specs.outbox.Keys.{out_key}
use Rattle.sms_script.specs.declared.report.rows.AcceptedRow.{AcceptedRow}
use Rattle.sms_script.specs.declared.report.rows.GivenRow.{GivenRow}
use Rattle.sms_script.specs.declared.report.rows.JoinedRow.{JoinedRow}
use Rattle.sms_play.specs.HandsetSide.{carried_given, entry_given, joined_as}

-- what each says, in order
abbrev pub each : {A B : Type 0} → (A → List B) → List A → List B
each f [] = []
each f (x ∷ xs) = f x ++ each f xs

abbrev pub accepted_of : List ℕ → Change LastAccepted → List AcceptedRow
accepted_of handset (Put l) = record { handset = handset; reference = l.reference; tpdu = l.tpdu } ∷ []
accepted_of handset (Remove key) = []

abbrev pub joined_of : List ℕ → Change Entry → List JoinedRow
joined_of handset (Put e) = joined_as handset e.message
joined_of handset (Remove key) = []

-- an entry that was not in the outbox was given its reference
abbrev pub entry_of : List ℕ → ℕ → List OutEntry → Change OutEntry → List GivenRow
entry_of handset moment outbox (Put o) = if not (is_some (row_at out_key o.number outbox)) then entry_given handset moment o else []
entry_of handset moment outbox (Remove key) = []

-- a copy gives nothing
abbrev pub frame_of : List ℕ → ℕ → ℕ → Outgoing → List GivenRow
frame_of handset moment next f = if f.is_copy then [] else carried_given handset moment next f.carried
