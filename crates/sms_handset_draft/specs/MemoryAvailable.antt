-- Memory available (3GPP TS 23.040 10.3, 3GPP TS 24.011 6.3.3). A handset that refused a message for want of a slot says
-- so by RP-SMMA once a slot has become free.
use Rattle.std.specs.Prelude.{nat_lt, Bool, false, if◌then◌else◌, true, ◌+◌, min, ℕ, None, ◌-◌, ◌%◌, Some, Option}
use Rattle.sms_base.specs.declared.holder.Holder.TheVariants.{Memory}
use Rattle.sms_rows.specs.table.Table.{put, without}
use Rattle.sms_control.specs.Timers.{later}
use Rattle.sms_relay.specs.RelayGrammar.{smma_up}
use Rattle.sms_link.specs.Timers.{tram}
use Rattle.sms_link.specs.declared.ending.Ending.{Ending}
use Rattle.sms_link.specs.declared.ending.Ending.TheVariants.{Acknowledged, Refused, Wrong, Lost}
use Rattle.sms_handset_rows.specs.inbox.Slots.{slots_taken}
use Rattle.sms_handset_rows.specs.declared.outbox.notice.Notice.{Notice}
use Rattle.sms_handset_rows.specs.outbox.Keys.{notice_key}
use Rattle.sms_handset_draft.specs.Draft.{Draft, put_counters, begin}

-- a slot is free, and an entry number is left
abbrev pub has_room : Draft → Bool
has_room d = if nat_lt (slots_taken d.rows.entries) d.rows.setup.slots then nat_lt d.rows.counters.entry 4294967295 else false

-- a message was refused for want of a slot
abbrev pub flag : Draft → Draft
flag d = put_counters (record d.rows.counters { is_memory_full = true }) d

-- one more RP-SMMA is wanted
abbrev pub want_notice : Draft → Draft
want_notice d = record d { notices_wanted = min (d.notices_wanted + 1) 4294967295 }

-- a slot became free
abbrev pub freed : Draft → Draft
freed d =
    if d.rows.counters.is_memory_full
    then want_notice (put_counters (record d.rows.counters { is_memory_full = false }) d)
    else d

-- ---- sending: twice in all, the second time under its reference once TRAM fired

-- How many RP-SMMA may have been sent and not have ended: of 256 references enough are left for the outbox.
abbrev pub most_notices : ℕ
most_notices = 200

abbrev pub put_notice : Notice → Draft → Draft
put_notice n d = record d { notices = put notice_key n d.notices }

abbrev pub remove_notice : ℕ → Draft → Draft
remove_notice number d = record d { notices = without notice_key number d.notices }

abbrev pub send_notice : Notice → Draft → Draft
send_notice n d = begin n.reference (Memory n.number) (smma_up n.reference) (put_notice (record n { due = None }) d)

-- its first sending takes a number and the next free reference
abbrev pub first_notice : ℕ → ℕ → Draft → Draft
first_notice number reference d =
    send_notice (record { number = number; reference = reference; is_second = false; due = None })
    (put_counters (record d.rows.counters { notice = number + 1; reference = (reference + 1) % 256 })
    (record d { notices_wanted = d.notices_wanted - 1 }))

-- the transaction of an RP-SMMA ended without its RP-ACK
abbrev pub notice_failed : Notice → Draft → Draft
notice_failed n d =
    if n.is_second then remove_notice n.number d
    else put_notice (record n { is_second = true; due = Some (later d.moment tram) }) d

abbrev pub notice_ended : Ending → Notice → Draft → Draft
notice_ended Acknowledged n d = remove_notice n.number d
notice_ended (Refused cause tpdu) n d = notice_failed n d
notice_ended Wrong n d = notice_failed n d
notice_ended Lost n d = notice_failed n d

abbrev pub notice_concluded : Ending → Option Notice → Draft → Draft
notice_concluded ending None d = d
notice_concluded ending (Some n) d = notice_ended ending n d
