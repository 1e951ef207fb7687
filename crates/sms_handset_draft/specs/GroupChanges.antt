-- What an event changes in the open groups, by the cases of the event. A part that arrives opens its group or joins
-- it, and the last part ends it. Nothing else that arrives touches a group.
use Rattle.std.specs.Prelude.{ℕ, List, if◌then◌else◌, Option, Some, None, Result, Ok, Err}
use Rattle.sms_rows.specs.table.Table.{row_at}
use Rattle.sms_alphabet.specs.declared.concat_key.ConcatKey.{ConcatKey}
use Rattle.sms_relay.specs.declared.fault.RelayFault.{RelayFault}
use Rattle.sms_relay.specs.declared.frame.Rp.{Rp}
use Rattle.sms_relay.specs.declared.frame.Rp.TheVariants.{DataUnit, AckUnit, ErrorUnit, Smma}
use Rattle.sms_relay.specs.RelayReading.{down_at as unit_at}
use Rattle.sms_link.specs.declared.ending.Upward.{Upward}
use Rattle.sms_link.specs.declared.ending.Upward.TheVariants.{Opened, Ended}
use Rattle.sms_link.specs.LinkTurn.{Turn}
use Rattle.sms_tpdu.specs.declared.deliver.Deliver.{Deliver as DeliverOf}
use Rattle.sms_tpdu.specs.declared.down.Down.{Down}
use Rattle.sms_tpdu.specs.declared.down.Down.TheVariants.{Deliver, StatusReport, SubmitReport}
use Rattle.sms_tpdu.specs.declared.fault.TpduFault.{TpduFault}
use Rattle.sms_tpdu.specs.declared.carrier.Carrier.TheVariants.{InData}
use Rattle.sms_tpdu.specs.TpduReading.{down_at}
use Rattle.sms_handset_rows.specs.declared.inbox.entry.Entry.{Entry}
use Rattle.sms_handset_rows.specs.declared.inbox.entry.Group.{Group}
use Rattle.sms_handset_rows.specs.declared.inbox.open_group.Regrouping.{Regrouping}
use Rattle.sms_handset_rows.specs.inbox.Groups.{part_entry, is_among, part_numbers, members, group_of, mark_of, key_of}
use Rattle.sms_handset_rows.specs.inbox.OpenGroups.{grouped}
use Rattle.sms_handset_rows.specs.declared.inbox.open_group.Regrouping.TheVariants.{Unchanged}
use Rattle.sms_handset_rows.specs.declared.inbox.discarded_group.DiscardedGroup.{DiscardedGroup}
use Rattle.sms_handset_rows.specs.inbox.Keys.{last_key}
use Rattle.sms_handset_rows.specs.inbox.Doubles.{is_double}
use Rattle.sms_handset_draft.specs.Draft.{Draft, with_turn}
use Rattle.sms_handset_draft.specs.MemoryAvailable.{has_room}

abbrev pub stored_groups : Group → ℕ → List ℕ → List Entry → Draft → Regrouping
stored_groups g n tpdu es d = grouped g es (part_entry d.rows.counters.entry g n tpdu)

abbrev pub new_part_groups : List ℕ → Group → ℕ → List Entry → Draft → Regrouping
new_part_groups tpdu g n es d = if has_room d then stored_groups g n tpdu es d else Unchanged

abbrev pub member_groups : List ℕ → Group → ℕ → List Entry → Draft → Regrouping
member_groups tpdu g n es d = if is_among n (part_numbers es) then Unchanged else new_part_groups tpdu g n es d

abbrev pub part_groups : List ℕ → Group → ℕ → Option DiscardedGroup → Draft → Regrouping
part_groups tpdu g n None d = member_groups tpdu g n (members g d.rows.entries) d
part_groups tpdu g n (Some m) d = Unchanged

abbrev pub deliver_groups : List ℕ → DeliverOf → Option ConcatKey → Draft → Regrouping
deliver_groups tpdu m None d = Unchanged
deliver_groups tpdu m (Some key) d =
    let g : Group = group_of m.originating_address key in
    part_groups tpdu g key.number (mark_of g d.rows.marks) d

abbrev pub tpdu_groups : List ℕ → Result Down TpduFault → Draft → Regrouping
tpdu_groups tpdu (Ok (Deliver m)) d = deliver_groups tpdu m (key_of m) d
tpdu_groups tpdu (Ok (StatusReport r)) d = Unchanged
tpdu_groups tpdu (Ok (SubmitReport r)) d = Unchanged
tpdu_groups tpdu (Err fault) d = Unchanged

abbrev pub data_groups : ℕ → List ℕ → Draft → Regrouping
data_groups reference tpdu d =
    if is_double tpdu (row_at last_key reference d.rows.last) then Unchanged else tpdu_groups tpdu (down_at InData tpdu) d

abbrev pub unit_groups : Result Rp RelayFault → Draft → Regrouping
unit_groups (Ok (DataUnit reference centre tpdu)) d = data_groups reference tpdu d
unit_groups (Ok (AckUnit reference tpdu)) d = Unchanged
unit_groups (Ok (ErrorUnit reference cause tpdu)) d = Unchanged
unit_groups (Ok (Smma reference)) d = Unchanged
unit_groups (Err fault) d = Unchanged

-- what the link passes up
abbrev pub up_groups : Option Upward → Draft → Regrouping
up_groups None d = Unchanged
up_groups (Some (Opened unit)) d = unit_groups (unit_at unit) d
up_groups (Some (Ended transfer ending)) d = Unchanged

abbrev pub frame_groups : Turn → Draft → Regrouping
frame_groups turn d = up_groups turn.out.up (with_turn turn d)
