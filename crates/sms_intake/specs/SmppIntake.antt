-- A submit_sm (SMPP v3.4 4.4.1): the checks that need no rows, in order, and the submission.
use Rattle.std.specs.Prelude.{◌≡◌, ℕ, ◌+◌, ◌*◌, ◌/◌, ◌%◌, ◌==◌, ◌&&◌, ◌||◌, not, nat_lt, nat_le, min, List, [], ◌∷◌, length, take, drop, Bool, true, false}
use Rattle.std.specs.Prelude.{if◌then◌else◌, Option, Some, None, is_some, Result, Ok, Err}
use Rattle.std.specs.List.{list_all}
use Rattle.std.specs.Option.{ok_or}
use Rattle.sms_base.specs.declared.address.Address.{Address}
use Rattle.sms_base.specs.declared.address_error.AddressError.{AddressError}
use Rattle.sms_base.specs.Address.{address_of}
use Rattle.sms_base.specs.HandsetNumber.{names_handset}
use Rattle.sms_base.specs.Reading.{◌>>=◌, only_if}
use Rattle.sms_base.specs.declared.originator.Originator.TheVariants.{Application}
use Rattle.sms_base.specs.declared.wish.Wish.{Wish}
use Rattle.sms_base.specs.declared.wish.Wish.TheVariants.{Nothing, Always, OnFailure}
use Rattle.sms_base.specs.SmppTime.{smpp_time_in}
use Rattle.sms_alphabet.specs.declared.scheme.Coding.{Coding}
use Rattle.sms_alphabet.specs.declared.scheme.Coding.TheVariants.{Septets, Octets, Ucs2, Compressed}
use Rattle.sms_alphabet.specs.DataCodingScheme.{coding_of}
use Rattle.sms_alphabet.specs.declared.concat_key.ConcatKey.{ConcatKey}
use Rattle.sms_alphabet.specs.declared.concat_key.ConcatReference.TheVariants.{SixteenBit}
use Rattle.sms_concat.specs.declared.content.Content.{Content}
use Rattle.sms_concat.specs.declared.content.Part.{Part}
use Rattle.sms_alphabet.specs.declared.element.Element.{Element}
use Rattle.sms_alphabet.specs.declared.header_error.HeaderError.{HeaderError}
use Rattle.sms_concat.specs.declared.split_error.SplitError.{SplitError}
use Rattle.sms_alphabet.specs.Concatenation.{counted, key_of}
use Rattle.sms_alphabet.specs.HeaderGrammar.{header_at}
use Rattle.sms_concat.specs.Splitting.{split_of}
use Rattle.sms_concat.specs.TextContent.{content_of_text}
use Rattle.sms_concat.specs.UserData.{capacity, data_length, header_of}
use Rattle.smpp_pdu.specs.declared.address.SmeAddress.{SmeAddress}
use Rattle.smpp_pdu.specs.declared.message.Message.{Message}
use Rattle.smpp_pdu.specs.declared.status.CommandStatus.{CommandStatus}
use Rattle.smpp_pdu.specs.declared.status.CommandStatus.TheVariants.{ESME_RINVMSGLEN, ESME_RINVSRCADR, ESME_RINVDSTADR, ESME_RINVESMCLASS, ESME_RSUBMITFAIL}
use Rattle.smpp_pdu.specs.declared.status.CommandStatus.TheVariants.{ESME_RINVSCHED, ESME_RINVEXPIRY, ESME_ROPTPARNOTALLWD, ESME_RINVPARLEN}
use Rattle.smpp_pdu.specs.declared.tlv.Tlvs.{Tlvs}
use Rattle.sms_tpdu.specs.Bits.{bit}
use Rattle.sms_tpdu.specs.ValidityTable.{later}
use Rattle.sms_intake.specs.declared.refusal.SmppError.{SmppError}
use Rattle.sms_intake.specs.declared.refusal.SmppError.TheVariants.{Refused, NoMemory}
use Rattle.sms_intake.specs.AllowedSources.{permitted}
use Rattle.sms_intake.specs.declared.smpp_front.Front.{Front}
use Rattle.sms_intake.specs.declared.smpp_intake.Judged.{Judged}
use Rattle.sms_intake.specs.declared.submission.CentreAccount.{CentreAccount}
use Rattle.sms_intake.specs.declared.submission.Submission.{Submission}
use Rattle.sms_intake.specs.declared.submission.Text.{Text}
use Rattle.sms_intake.specs.declared.submission.Text.TheVariants.{Whole, Single}
use Rattle.sms_intake.specs.PartBodies.{body_behind}
pub use Rattle.sms_intake.specs.SmppText.{are_below, are_whole, class_at, content_at, has_header, header_read, header_size, is_ascii, is_empty, octets_at}
pub use Rattle.sms_intake.specs.SmppText.{payload_or, said, sar_key, sar_of, septets_at, single_behind, splits, text_at, text_in, text_of, ucs2_at, whole_of}
pub use Rattle.sms_intake.specs.SmppText.{wish_in}
unfoldable pub use Rattle.sms_intake.specs.SmppText.{headed_text, plain_text}

-- ---- addresses

abbrev pub address_or_none : Result Address AddressError → Option Address
address_or_none (Ok address) = Some address
address_or_none (Err fault) = None

-- the address of an entity, in ASCII
abbrev pub address_in : SmeAddress → Option Address
address_in a = if is_ascii a.addr then address_or_none (address_of a.ton a.npi a.addr) else None

-- an empty source is the account's address
abbrev pub source_in : Address → SmeAddress → Option Address
source_in own a = if is_empty a.addr then Some own else address_in a

abbrev pub handset_named : Option Address → Result (List ℕ) CommandStatus
handset_named None = Err ESME_RINVDSTADR
handset_named (Some a) = if names_handset a then Ok a.digits else Err ESME_RINVDSTADR

-- ---- sar values (5.3.2.22 to 5.3.2.24)

abbrev pub has_length : ℕ → Option (List ℕ) → Bool
has_length n None = true
has_length n (Some value) = length value == n

abbrev pub has_sar_lengths : Tlvs → Bool
has_sar_lengths t = has_length 2 t.sar_msg_ref_num && (has_length 1 t.sar_total_segments && has_length 1 t.sar_segment_seqnum)

abbrev pub has_sar : Tlvs → Bool
has_sar t = is_some t.sar_msg_ref_num || (is_some t.sar_total_segments || is_some t.sar_segment_seqnum)

-- ---- what the message says

-- a payload beside a short_message, or sar values beside a header
abbrev pub has_too_much : Message → Bool
has_too_much m = (is_some m.tlvs.message_payload && not (is_empty m.short_message)) || (has_sar m.tlvs && has_header m)

-- ---- its content, by data_coding

-- ---- a header in front of it

-- ---- lengths

-- ---- times

-- no longer than 63 weeks, and two days where nothing is said
abbrev pub limited : ℕ → Option ℕ → Result ℕ CommandStatus
limited now None = Err ESME_RINVEXPIRY
limited now (Some limit) = if nat_lt now limit then Ok (min limit (later now 38102400)) else Err ESME_RINVEXPIRY

abbrev pub limit_in : ℕ → List ℕ → Result ℕ CommandStatus
limit_in now time = if is_empty time then Ok (later now 172800) else limited now (smpp_time_in time now)

-- before the limit; one that is past is kept as it is
abbrev pub before : ℕ → Option ℕ → Result ℕ CommandStatus
before limit None = Err ESME_RINVSCHED
before limit (Some due) = if nat_lt due limit then Ok due else Err ESME_RINVSCHED

abbrev pub due_in : ℕ → ℕ → List ℕ → Result ℕ CommandStatus
due_in now limit time = if is_empty time then Ok now else before limit (smpp_time_in time now)

-- ---- registered_delivery, bits 1 and 0: 0 none, 1 and 3 always, 2 on failure

-- ---- the checks, in order

-- what precedes the text: message type bits, source, destination, and which parameters are there together
unfoldable pub front_in : CentreAccount → Message → Result Front CommandStatus
front_in account m = do
  kind ← only_if (m.esm_class / 4 % 16 == 0) ESME_RINVESMCLASS
  source ← ok_or (permitted account (source_in account.address m.source)) ESME_RINVSRCADR
  handset ← handset_named (address_in m.destination)
  lengths ← only_if (has_sar_lengths m.tlvs) ESME_RINVPARLEN
  alone ← only_if (not (has_too_much m)) ESME_ROPTPARNOTALLWD
  Ok (record { source = source; handset = handset })

-- then what it says, and its times
unfoldable pub judged_in : CentreAccount → ℕ → Message → Result Judged CommandStatus
judged_in account now m = do
  front ← front_in account m
  text ← text_in m
  limit ← limit_in now m.validity_period
  due ← due_in now limit m.schedule_delivery_time
  Ok (record { front = front; text = text; limit = limit; due = due })

abbrev pub submission_for : CentreAccount → Message → Judged → Submission
submission_for account m j = record {
  originator = Application account.name;
  source = j.front.source;
  handset = j.front.handset;
  protocol_identifier = m.protocol_id;
  reply_path = bit m.esm_class 128;
  wish = wish_in m.registered_delivery;
  rejects_duplicates = false;
  limit = j.limit;
  due = j.due;
  priority = min m.priority_flag 3;
  text = j.text;
}

unfoldable pub from_pdu : CentreAccount → ℕ → Message → Result Submission CommandStatus
from_pdu account now m = do
  judged ← judged_in account now m
  Ok (submission_for account m judged)

-- the status with which it is refused, if it is
abbrev pub refusal_in : {X : Type 0} → Result X CommandStatus → Option CommandStatus
refusal_in (Ok x) = None
refusal_in (Err status) = Some status

-- ---- with memory

-- The answer is the wanted one. Want of memory is reported only where there is a value.
abbrev pub Answered : {X : Type 0} → Result X SmppError → Result X CommandStatus → Type 0
Answered {X} (Ok x) wanted = wanted ≡ Ok x
Answered {X} (Err NoMemory) wanted = (x : X) × (wanted ≡ Ok x)
Answered {X} (Err (Refused status)) wanted = wanted ≡ Err status
