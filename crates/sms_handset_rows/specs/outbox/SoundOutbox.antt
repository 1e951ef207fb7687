-- Rows of the outbox from which a handset can recover.
use Rattle.std.specs.Prelude.{◌≡◌, ◌≤◌, length, false, Ok, ℕ, ◌<◌, List}
use Rattle.std.specs.List.{AllByRecursion}
use Rattle.sms_tpdu.specs.declared.submit.Submit.{Submit}
use Rattle.sms_tpdu.specs.TpduReading.{submit_at}
use Rattle.sms_handset_rows.specs.inbox.SoundInbox.{IsGiven, IsApart}
use Rattle.sms_handset_rows.specs.declared.inbox.entry.Entry.{Entry}
use Rattle.sms_handset_rows.specs.declared.outbox.out_entry.OutEntry.{OutEntry}
use Rattle.sms_handset_rows.specs.outbox.Settling.{most_tries}
use Rattle.sms_handset_rows.specs.declared.outbox.out_entry.EntryState.{EntryState}
use Rattle.sms_handset_rows.specs.declared.outbox.out_entry.EntryState.TheVariants.{Queued, Sending, Sent, Failed, Unsure}

-- the octets are the SUBMIT of the entry, as it is sent first, and fit the unit that carries it
abbrev pub IsSubmitted : OutEntry → Type 0
IsSubmitted o =
    (s : Submit)
    × ((submit_at o.tpdu ≡ Ok s) × (s.destination_address ≡ o.destination) × (s.message_reference ≡ o.message_reference) × (s.reject_duplicates ≡ false)
    × (length o.tpdu ≤ 200))

-- sent at least once, and no more often than an entry is sent
abbrev pub WasSent : ℕ → Type 0
WasSent tries = (0 < tries) × (tries ≤ most_tries)

-- an entry that is Queued has a try left, any other was sent
abbrev pub AreTries : EntryState → ℕ → Type 0
AreTries Queued tries = tries < most_tries
AreTries Sending tries = WasSent tries
AreTries Sent tries = WasSent tries
AreTries Failed tries = WasSent tries
AreTries Unsure tries = WasSent tries

abbrev pub AreOutEntries : ℕ → List Entry → List OutEntry → Type 0
AreOutEntries next entries outbox =
    AllByRecursion (λ (o : OutEntry). IsGiven next o.number × IsApart o.number entries × IsSubmitted o × AreTries o.state o.tries) outbox
