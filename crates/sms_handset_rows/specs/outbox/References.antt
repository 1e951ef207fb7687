-- References: which are held, and the next that is free.
use Rattle.std.specs.Prelude.{Bool, true, false, ℕ, List, [], ◌∷◌, if◌then◌else◌, ◌+◌, ◌++◌, zero, suc, ◌%◌}
use Rattle.sms_handset_rows.specs.inbox.Groups.{is_among}
use Rattle.sms_handset_rows.specs.declared.outbox.out_entry.EntryState.{EntryState}
use Rattle.sms_handset_rows.specs.declared.outbox.out_entry.EntryState.TheVariants.{Queued, Sending, Sent, Failed, Unsure}
use Rattle.sms_handset_rows.specs.declared.outbox.out_entry.OutEntry.{OutEntry}
use Rattle.sms_handset_rows.specs.declared.outbox.notice.Notice.{Notice}

abbrev pub is_unfinished : EntryState → Bool
is_unfinished Queued = true
is_unfinished Sending = true
is_unfinished Sent = false
is_unfinished Failed = false
is_unfinished Unsure = false

-- what the unfinished entries hold: their TP-MR (3GPP TS 23.040 9.2.3.6), and their RP references (3GPP TS 24.011 8.2.3)
abbrev pub held_message_references : List OutEntry → List ℕ
held_message_references [] = []
held_message_references (o ∷ os) =
    if is_unfinished o.state then o.message_reference ∷ held_message_references os else held_message_references os

abbrev pub held_by_entries : List OutEntry → List ℕ
held_by_entries [] = []
held_by_entries (o ∷ os) = if is_unfinished o.state then o.reference ∷ held_by_entries os else held_by_entries os

-- each RP-SMMA that was sent and has not ended holds its reference too
abbrev pub held_by_notices : List Notice → List ℕ
held_by_notices [] = []
held_by_notices (n ∷ ns) = n.reference ∷ held_by_notices ns

abbrev pub held_references : List Notice → List OutEntry → List ℕ
held_references ns os = held_by_notices ns ++ held_by_entries os

-- the first from that one on, around from 255 to 0, that is not held
unfoldable pub free_from : ℕ → ℕ → List ℕ → ℕ
free_from zero reference held = reference
free_from (suc turns) reference held = if is_among reference held then free_from turns ((reference + 1) % 256) held else reference

abbrev pub next_free : ℕ → List ℕ → ℕ
next_free reference held = free_from 256 reference held
