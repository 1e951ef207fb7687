-- Receiving a message (3GPP TS 23.040 10.1): it is stored before it is acknowledged, and a double is acknowledged alone.
use Rattle.std.specs.Prelude.{ℕ, [], ◌∷◌, Some, None, List, if◌then◌else◌, Option, Result, Ok, Err}
use Rattle.sms_base.specs.declared.holder.Holder.{Holder}
use Rattle.sms_base.specs.declared.carried.Kind.TheVariants.{Ack, Error}
use Rattle.sms_rows.specs.table.Table.{row_at}
use Rattle.sms_alphabet.specs.declared.concat_key.ConcatKey.{ConcatKey}
use Rattle.sms_relay.specs.RelayGrammar.{ack_up, error_up}
use Rattle.sms_relay.specs.declared.cause.RpCause.{RpCause}
use Rattle.sms_relay.specs.declared.cause.RpCause.TheVariants.{MemoryCapacityExceeded, InvalidMandatoryInformation}
use Rattle.sms_relay.specs.declared.fault.RelayFault.{RelayFault}
use Rattle.sms_relay.specs.Rejecting.{fault_cause, reference_octet}
use Rattle.sms_relay.specs.declared.frame.Rp.{Rp}
use Rattle.sms_relay.specs.declared.frame.Rp.TheVariants.{DataUnit, AckUnit, ErrorUnit, Smma}
use Rattle.sms_tpdu.specs.declared.deliver.Deliver.{Deliver as DeliverOf}
use Rattle.sms_tpdu.specs.declared.down.Down.{Down}
use Rattle.sms_tpdu.specs.declared.down.Down.TheVariants.{Deliver, StatusReport, SubmitReport}
use Rattle.sms_tpdu.specs.declared.fault.TpduFault.{TpduFault}
use Rattle.sms_tpdu.specs.declared.carrier.Carrier.TheVariants.{InData}
use Rattle.sms_tpdu.specs.TpduReading.{down_at}
use Rattle.sms_handset_rows.specs.declared.inbox.entry.Entry.{Entry}
use Rattle.sms_handset_rows.specs.declared.inbox.entry.Group.{Group}
use Rattle.sms_handset_rows.specs.inbox.Groups.{is_among, part_numbers, members, group_of, mark_of, key_of}
use Rattle.sms_handset_rows.specs.declared.inbox.discarded_group.DiscardedGroup.{DiscardedGroup}
use Rattle.sms_handset_rows.specs.inbox.Doubles.{is_double}
use Rattle.sms_handset_rows.specs.inbox.Keys.{last_key}
use Rattle.sms_handset_rows.specs.declared.outbox.out_entry.OutEntry.{OutEntry}
use Rattle.sms_handset_rows.specs.outbox.Reports.{reported}
use Rattle.sms_handset_draft.specs.Draft.{Draft, reply, put_last, put_out}
use Rattle.sms_handset_draft.specs.MemoryAvailable.{flag, has_room}
use Rattle.sms_handset_draft.specs.Storing.{store_single, store_part, marked}

-- ---- answers

-- RP-ACK with a DELIVER-REPORT that says nothing
abbrev pub acknowledge : ℕ → Holder → Draft → Draft
acknowledge reference tag d = reply Ack reference tag (ack_up reference (Some (0 ∷ 0 ∷ []))) d

-- RP-ERROR with a DELIVER-REPORT that has the cause of failure
abbrev pub refuse : ℕ → Holder → RpCause → ℕ → Draft → Draft
refuse reference tag cause failure d = reply Error reference tag (error_up reference cause (Some (0 ∷ failure ∷ 0 ∷ []))) d

-- RP-ERROR alone
abbrev pub reject : ℕ → Holder → RpCause → Draft → Draft
reject reference tag cause d = reply Error reference tag (error_up reference cause None) d

-- the TPDU is the last under its reference from now on
abbrev pub accept : ℕ → Holder → List ℕ → Draft → Draft
accept reference tag tpdu d = acknowledge reference tag (put_last (record { reference = reference; tpdu = tpdu }) d)

-- TP-FCS D3, memory capacity exceeded (3GPP TS 23.040 9.2.3.22)
abbrev pub no_room : ℕ → Holder → Draft → Draft
no_room reference tag d = refuse reference tag MemoryCapacityExceeded 211 (flag d)

-- ---- DELIVER

-- a message that is no part of an open group
abbrev pub single_received : ℕ → Holder → List ℕ → Draft → Draft
single_received reference tag tpdu d =
    if has_room d then accept reference tag tpdu (store_single tpdu d) else no_room reference tag d

-- a part whose group has those parts so far
abbrev pub new_part_received : ℕ → Holder → List ℕ → Group → ℕ → List Entry → Draft → Draft
new_part_received reference tag tpdu g n es d =
    if has_room d then accept reference tag tpdu (store_part g n tpdu es d) else no_room reference tag d

-- a number of its group is an entry of its own
abbrev pub member_received : ℕ → Holder → List ℕ → Group → ℕ → List Entry → Draft → Draft
member_received reference tag tpdu g n es d =
    if is_among n (part_numbers es) then single_received reference tag tpdu d else new_part_received reference tag tpdu g n es d

-- so is a number that was seen of a discarded group
abbrev pub part_received : ℕ → Holder → List ℕ → Group → ℕ → Option DiscardedGroup → Draft → Draft
part_received reference tag tpdu g n None d = member_received reference tag tpdu g n (members g d.rows.entries) d
part_received reference tag tpdu g n (Some m) d =
    if is_among n m.seen then single_received reference tag tpdu d else accept reference tag tpdu (marked n m d)

abbrev pub deliver_received : ℕ → Holder → List ℕ → DeliverOf → Option ConcatKey → Draft → Draft
deliver_received reference tag tpdu m None d = single_received reference tag tpdu d
deliver_received reference tag tpdu m (Some key) d =
    let g : Group = group_of m.originating_address key in
    part_received reference tag tpdu g key.number (mark_of g d.rows.marks) d

-- ---- STATUS-REPORT

abbrev pub note : ℕ → Option OutEntry → Draft → Draft
note status None d = d
note status (Some o) d = put_out (record o { status = Some status }) d

-- ---- RP-DATA

abbrev pub tpdu_received : ℕ → Holder → List ℕ → Result Down TpduFault → Draft → Draft
tpdu_received reference tag tpdu (Ok (Deliver m)) d = deliver_received reference tag tpdu m (key_of m) d
tpdu_received reference tag tpdu (Ok (StatusReport r)) d = accept reference tag tpdu (note r.status (reported r d.rows.outbox) d)
tpdu_received reference tag tpdu (Ok (SubmitReport r)) d = refuse reference tag InvalidMandatoryInformation 255 d
tpdu_received reference tag tpdu (Err fault) d = refuse reference tag InvalidMandatoryInformation 255 d

abbrev pub data_received : ℕ → Holder → List ℕ → Draft → Draft
data_received reference tag tpdu d =
    if is_double tpdu (row_at last_key reference d.rows.last) then acknowledge reference tag d
    else tpdu_received reference tag tpdu (down_at InData tpdu) d

-- ---- a unit that opens a transaction

-- other units are dropped
abbrev pub unit_received : Holder → List ℕ → Result Rp RelayFault → Draft → Draft
unit_received tag unit (Ok (DataUnit reference centre tpdu)) d = data_received reference tag tpdu d
unit_received tag unit (Ok (AckUnit reference tpdu)) d = d
unit_received tag unit (Ok (ErrorUnit reference cause tpdu)) d = d
unit_received tag unit (Ok (Smma reference)) d = d
unit_received tag unit (Err fault) d = reject (reference_octet unit) tag (fault_cause fault) d
