-- The outbox in the middle of an event. One message is under way at a time, the oldest that is due first. Here is how it ends, and what a
-- restart leaves.
use Rattle.std.specs.Prelude.{Option, Some, None, List, [], ◌∷◌, if◌then◌else◌, false, ◌+◌, min, nat_lt, ◌&&◌, Bool, length}
use Rattle.sms_base.specs.declared.holder.Holder.{Holder}
use Rattle.sms_base.specs.declared.holder.Holder.TheVariants.{Part, Report, Entry, Memory}
use Rattle.sms_base.specs.declared.carried.Carried.{Carried}
use Rattle.sms_rows.specs.table.Table.{row_at}
use Rattle.sms_control.specs.LinkStep.{is_busy}
use Rattle.sms_relay.specs.RelayGrammar.{data_up}
use Rattle.sms_link.specs.declared.ending.Ending.{Ending}
use Rattle.sms_tpdu.specs.AddressGrammar.{relay_address}
use Rattle.sms_handset_rows.specs.outbox.Settling.{settled, lost, is_sending}
use Rattle.sms_handset_rows.specs.declared.outbox.out_entry.OutEntry.{OutEntry}
use Rattle.sms_handset_rows.specs.outbox.Answers.{verdict_of}
use Rattle.sms_handset_rows.specs.outbox.Keys.{notice_key, out_key}
use Rattle.sms_handset_rows.specs.outbox.Offers.{submit_of, first_due, first_fired}
use Rattle.sms_handset_rows.specs.declared.outbox.out_entry.EntryState.TheVariants.{Sending}
use Rattle.sms_handset_rows.specs.outbox.References.{held_references, next_free}
use Rattle.sms_handset_rows.specs.declared.outbox.notice.Notice.{Notice}
use Rattle.sms_handset_draft.specs.Draft.{Draft, put_out, begin}
use Rattle.sms_handset_draft.specs.MemoryAvailable.{notice_concluded, most_notices, first_notice, send_notice}

-- ---- how a transfer ends

abbrev pub entry_concluded : Ending → Option OutEntry → Draft → Draft
entry_concluded ending None d = d
entry_concluded ending (Some o) d = put_out (settled d.moment (verdict_of ending) o) d

-- what the transaction was for
abbrev pub holder_concluded : Ending → Holder → Draft → Draft
holder_concluded ending (Part id number) d = d
holder_concluded ending (Report id) d = d
holder_concluded ending (Entry n) d = entry_concluded ending (row_at out_key n d.rows.outbox) d
holder_concluded ending (Memory n) d = notice_concluded ending (row_at notice_key n d.notices) d

-- the transfer that this side began has ended
abbrev pub transfer_ended : Carried → Ending → Draft → Draft
transfer_ended transfer ending d = holder_concluded ending transfer.tag d

-- ---- after a restart: what was under way is lost

abbrev pub lapse_rows : List OutEntry → Draft → Draft
lapse_rows [] d = d
lapse_rows (o ∷ os) d = lapse_rows os (if is_sending o.state then put_out (lost o) d else d)

abbrev pub lapse : Draft → Draft
lapse d = if d.is_recovered then lapse_rows d.rows.outbox (record d { is_recovered = false }) else d

-- ---- sending

abbrev pub offer_entry : Option OutEntry → Draft → Draft
offer_entry None d = d
offer_entry (Some o) d =
    begin o.reference (Entry o.number) (data_up o.reference (relay_address d.rows.setup.centre) (submit_of o))
    (put_out (record o { state = Sending; tries = min (o.tries + 1) 255; due = None }) d)

abbrev pub offer_message : Draft → Draft
offer_message d = offer_entry (first_due d.moment d.rows.outbox) d

-- An RP-SMMA is wanted, a number is left for it, and few wait to be sent again: where it is not so, messages are sent.
abbrev pub is_notice_next : Draft → Bool
is_notice_next d = nat_lt 0 d.notices_wanted && (nat_lt d.rows.counters.notice 4294967295 && nat_lt (length d.notices) most_notices)

-- an RP-SMMA that is wanted precedes messages, however many wait for TRAM
abbrev pub offer_wanted : Draft → Draft
offer_wanted d =
    if is_notice_next d
    then first_notice d.rows.counters.notice (next_free d.rows.counters.reference (held_references d.notices d.rows.outbox)) d
    else offer_message d

abbrev pub offer_after : Option Notice → Draft → Draft
offer_after None d = offer_wanted d
offer_after (Some n) d = send_notice n d

-- one transaction at a time
abbrev pub offer : Draft → Draft
offer d = if is_busy d.links then d else offer_after (first_fired d.moment d.notices) d

-- after every event that is not refused
abbrev pub follow : Draft → Draft
follow d = offer (lapse d)
