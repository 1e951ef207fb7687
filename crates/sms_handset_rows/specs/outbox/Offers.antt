-- What is sent next of the outbox, and as what octets.
use Rattle.std.specs.Prelude.{ℕ, ◌+◌, ◌*◌, ◌/◌, ◌%◌, List, [], ◌∷◌, if◌then◌else◌, nat_le, Bool, true, Option, Some, None, false, ◌&&◌}
use Rattle.sms_handset_rows.specs.declared.outbox.out_entry.OutEntry.{OutEntry}
use Rattle.sms_handset_rows.specs.declared.outbox.out_entry.EntryState.{EntryState}
use Rattle.sms_handset_rows.specs.declared.outbox.out_entry.EntryState.TheVariants.{Queued, Sending, Sent, Failed, Unsure}
use Rattle.sms_handset_rows.specs.declared.outbox.notice.Notice.{Notice}

-- bit 2 of the first octet is TP-RD (3GPP TS 23.040 9.2.3.25)
abbrev pub rejecting_duplicates : List ℕ → List ℕ
rejecting_duplicates [] = []
rejecting_duplicates (first ∷ rest) = (first / 8 * 8 + 4 + first % 4) ∷ rest

abbrev pub submit_of : OutEntry → List ℕ
submit_of o = if o.rejects_duplicates then rejecting_duplicates o.tpdu else o.tpdu

abbrev pub is_past : ℕ → Option ℕ → Bool
is_past moment None = true
is_past moment (Some due) = nat_le due moment

abbrev pub is_queued : EntryState → Bool
is_queued Queued = true
is_queued Sending = false
is_queued Sent = false
is_queued Failed = false
is_queued Unsure = false

abbrev pub is_due : ℕ → OutEntry → Bool
is_due moment o = is_queued o.state && is_past moment o.due

-- the oldest entry that is due
abbrev pub first_due : ℕ → List OutEntry → Option OutEntry
first_due moment [] = None
first_due moment (o ∷ os) = if is_due moment o then Some o else first_due moment os

abbrev pub is_fired : ℕ → Option ℕ → Bool
is_fired moment None = false
is_fired moment (Some due) = nat_le due moment

-- the oldest RP-SMMA whose TRAM has fired
abbrev pub first_fired : ℕ → List Notice → Option Notice
first_fired moment [] = None
first_fired moment (n ∷ ns) = if is_fired moment n.due then Some n else first_fired moment ns
