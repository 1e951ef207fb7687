-- Messages, parts and priorities on which a centre can start.
use Rattle.std.specs.Prelude.{◌≡◌, ℕ, ◌<◌, ◌≤◌, List, length, true, Option, Some, None, Ok}
use Rattle.sms_base.specs.Address.{IsAddress}
use Rattle.sms_base.specs.Among.{Among}
use Rattle.sms_base.specs.declared.final_state.FinalState.{FinalState}
use Rattle.sms_base.specs.MessageId.{IsMessageId}
use Rattle.sms_rows.specs.table.Table.{Rises, row_at}
use Rattle.sms_tpdu.specs.declared.carrier.Carrier.TheVariants.{InData}
use Rattle.sms_tpdu.specs.declared.deliver.Deliver.{Deliver as DeliverOf}
use Rattle.sms_tpdu.specs.declared.down.Down.TheVariants.{Deliver}
use Rattle.sms_tpdu.specs.TpduReading.{down_at}
use Rattle.sms_centre_rows.specs.declared.messages.message.MessageRow.{MessageRow}
use Rattle.sms_centre_rows.specs.declared.messages.part.PartRow.{PartRow}
use Rattle.sms_centre_rows.specs.declared.messages.priority.PriorityRow.{PriorityRow}
use Rattle.sms_centre_rows.specs.messages.Messages.{all_done, message_at, message_key, part_at, part_key, priority_key}
use Rattle.sms_centre_rows.specs.messages.SplitReferences.{is_delivered}
use Rattle.sms_centre_rows.specs.waiting.SoundAllocations.{IsNumber}

-- ---- messages

-- it ended where the moment of its end is kept
abbrev pub EndsAt : Option FinalState → Option ℕ → Type 0
EndsAt None done = done ≡ None
EndsAt (Some state) done = (moment : ℕ) × (done ≡ Some moment)

-- a message is delivered exactly where all its parts are done; its first part and its priority are there
pub record IsMessage (parts : List PartRow) (priorities : List PriorityRow) (m : MessageRow) : Type 0 where
  pub id : IsMessageId m.id
  pub source : IsAddress m.source
  pub handset : IsNumber m.handset
  pub ended : EndsAt m.state m.done
  pub delivered : is_delivered m.state ≡ all_done m.id parts
  pub first : (p : PartRow) × (part_at m.id 1 parts ≡ Some p)
  pub priority : (p : PriorityRow) × (row_at priority_key m.id priorities ≡ Some p)

-- ---- parts

-- Its octets are a DELIVER (3GPP TS 23.040 9.2.2.1) of its message, with TP-MMS 1. They are 200 octets at most, so that it
-- fits an RP-DATA of 248.
pub record IsDeliver (m : MessageRow) (p : PartRow) (d : DeliverOf) : Type 0 where
  pub read : down_at InData p.tpdu ≡ Ok (Deliver d)
  pub source : d.originating_address ≡ m.source
  pub data_coding_scheme : d.data_coding_scheme ≡ m.data_coding_scheme
  pub protocol_identifier : d.protocol_identifier ≡ m.protocol_identifier
  pub no_more : d.no_more_messages_to_send ≡ true
  pub fits : length p.tpdu ≤ 200

pub record IsPart (messages : List MessageRow) (p : PartRow) : Type 0 where
  pub first : 0 < p.number
  pub few : p.number ≤ 20
  pub reference : p.reference < 256
  pub message : (m : MessageRow) × ((message_at p.id messages ≡ Some m) × ((d : DeliverOf) × IsDeliver m p d))

-- ---- priorities

pub record IsPriority (messages : List MessageRow) (p : PriorityRow) : Type 0 where
  pub few : p.priority ≤ 3
  pub message : (m : MessageRow) × (message_at p.id messages ≡ Some m)

-- ---- all of it

pub record SoundMessages (messages : List MessageRow) (parts : List PartRow) (priorities : List PriorityRow) : Type 0 where
  pub message_keys : Rises message_key messages
  pub part_keys : Rises part_key parts
  pub priority_keys : Rises priority_key priorities
  pub each_message : (m : MessageRow) → Among m messages → IsMessage parts priorities m
  pub each_part : (p : PartRow) → Among p parts → IsPart messages p
  pub each_priority : (p : PriorityRow) → Among p priorities → IsPriority messages p
