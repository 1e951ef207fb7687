-- The tests whether rows of the outbox are sound, over lists.
use Rattle.std.specs.Prelude.{◌==◌, ◌&&◌, not, Bool, false, Result, Ok, Err, ℕ, nat_le, nat_lt, length, List}
use Rattle.sms_tpdu.specs.declared.fault.TpduFault.{TpduFault}
use Rattle.sms_tpdu.specs.declared.up.Up.{Up}
use Rattle.sms_tpdu.specs.declared.up.Up.TheVariants.{Submit, DeliverReport}
use Rattle.sms_tpdu.specs.declared.carrier.Carrier.TheVariants.{InData}
use Rattle.sms_tpdu.specs.TpduReading.{up_at}
use Rattle.sms_handset_rows.specs.inbox.Groups.{is_same_address}
use Rattle.sms_handset_rows.specs.inbox.InboxTest.{is_given, is_apart}
use Rattle.sms_handset_rows.specs.declared.inbox.entry.Entry.{Entry}
use Rattle.sms_handset_rows.specs.declared.outbox.out_entry.OutEntry.{OutEntry}
use Rattle.sms_handset_rows.specs.outbox.Settling.{most_tries}
use Rattle.sms_handset_rows.specs.declared.outbox.out_entry.EntryState.{EntryState}
use Rattle.sms_handset_rows.specs.declared.outbox.out_entry.EntryState.TheVariants.{Queued, Sending, Sent, Failed, Unsure}

abbrev pub reads_submit : OutEntry → Result Up TpduFault → Bool
reads_submit o (Ok (Submit s)) =
    is_same_address s.destination_address o.destination && ((s.message_reference == o.message_reference) && not s.reject_duplicates)
reads_submit o (Ok (DeliverReport r)) = false
reads_submit o (Err fault) = false

abbrev pub was_sent : ℕ → Bool
was_sent tries = nat_lt 0 tries && nat_le tries most_tries

abbrev pub are_tries : EntryState → ℕ → Bool
are_tries Queued tries = nat_lt tries most_tries
are_tries Sending tries = was_sent tries
are_tries Sent tries = was_sent tries
are_tries Failed tries = was_sent tries
are_tries Unsure tries = was_sent tries

abbrev pub is_submitted : OutEntry → Bool
is_submitted o = reads_submit o (up_at InData o.tpdu) && nat_le (length o.tpdu) 200

abbrev pub is_out_entry : ℕ → List Entry → OutEntry → Bool
is_out_entry next entries o = (is_given next o.number && is_apart o.number entries) && (is_submitted o && are_tries o.state o.tries)
