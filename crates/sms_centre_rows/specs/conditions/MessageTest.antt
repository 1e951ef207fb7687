-- Whether a centre can start with a row of a message, a part or a priority, where others are looked up by their keys.
use Rattle.std.specs.Prelude.{◌≡◌, ℕ, ◌+◌, ◌==◌, ◌&&◌, not, nat_le, nat_lt, is_none, is_some, List, length, Bool, true, false, Option, Some, None, Result, Ok}
use Rattle.std.specs.Prelude.{Err}
use Rattle.sms_base.specs.declared.final_state.FinalState.{FinalState}
use Rattle.sms_base.specs.HandsetNumber.{own_address}
use Rattle.sms_rows.specs.table.Keys.{pair_key}
use Rattle.sms_rows.specs.table.Table.{row_at, rows_between}
use Rattle.sms_tpdu.specs.declared.carrier.Carrier.TheVariants.{InData}
use Rattle.sms_tpdu.specs.declared.down.Down.{Down}
use Rattle.sms_tpdu.specs.declared.down.Down.TheVariants.{Deliver, StatusReport, SubmitReport}
use Rattle.sms_tpdu.specs.declared.fault.TpduFault.{TpduFault}
use Rattle.sms_tpdu.specs.TpduReading.{down_at}
use Rattle.sms_centre_rows.specs.declared.messages.message.MessageRow.{MessageRow}
use Rattle.sms_centre_rows.specs.declared.messages.part.PartRow.{PartRow}
use Rattle.sms_centre_rows.specs.declared.messages.priority.PriorityRow.{PriorityRow}
use Rattle.sms_centre_rows.specs.messages.Messages.{message_at, part_at, part_key, priority_key}
use Rattle.sms_centre_rows.specs.messages.SplitReferences.{is_delivered, is_same_address}
use Rattle.sms_centre_rows.specs.conditions.AddressTest.{is_address}
use Rattle.std.specs.List.{list_all}

-- ---- numbers

abbrev pub is_id : ℕ → Bool
is_id n = nat_lt 0 n && nat_le n 9999999999

abbrev pub is_handset : List ℕ → Bool
is_handset digits = is_address (own_address digits)

-- ---- messages

abbrev pub ends_so : Option FinalState → Option ℕ → Bool
ends_so None done = is_none done
ends_so (Some state) done = is_some done

abbrev pub are_alike : Bool → Bool → Bool
are_alike true b = b
are_alike false b = not b

-- the parts of a message are in one place
abbrev pub parts_with : ℕ → List PartRow → List PartRow
parts_with id parts = rows_between part_key (pair_key id 0) (pair_key (id + 1) 0) parts

abbrev pub is_done : PartRow → Bool
is_done p = p.progress.is_done

abbrev pub delivery_agrees : List PartRow → MessageRow → Bool
delivery_agrees parts m = are_alike (is_delivered m.state) (list_all is_done (parts_with m.id parts))

abbrev pub has_rows : List PartRow → List PriorityRow → ℕ → Bool
has_rows parts priorities id = is_some (part_at id 1 parts) && is_some (row_at priority_key id priorities)

abbrev pub is_message : List PartRow → List PriorityRow → MessageRow → Bool
is_message parts priorities m =
    ((is_id m.id && is_address m.source) && (is_handset m.handset && ends_so m.state m.done))
    && (delivery_agrees parts m && has_rows parts priorities m.id)

-- ---- parts

abbrev pub is_deliver_of : MessageRow → Result Down TpduFault → Bool
is_deliver_of m (Ok (Deliver d)) =
    is_same_address d.originating_address m.source
    && ((d.data_coding_scheme == m.data_coding_scheme) && ((d.protocol_identifier == m.protocol_identifier) && d.no_more_messages_to_send))
is_deliver_of m (Ok (StatusReport r)) = false
is_deliver_of m (Ok (SubmitReport r)) = false
is_deliver_of m (Err fault) = false

abbrev pub carries : PartRow → Option MessageRow → Bool
carries p None = false
carries p (Some m) = nat_le (length p.tpdu) 200 && is_deliver_of m (down_at InData p.tpdu)

abbrev pub is_part : List MessageRow → PartRow → Bool
is_part messages p = carries p (message_at p.id messages) && ((nat_lt 0 p.number && nat_le p.number 20) && nat_lt p.reference 256)

-- ---- priorities

abbrev pub is_priority : List MessageRow → PriorityRow → Bool
is_priority messages p = nat_le p.priority 3 && is_some (message_at p.id messages)

-- ---- all of them

-- each row passes
pub record MessagesPass (messages : List MessageRow) (parts : List PartRow) (priorities : List PriorityRow) : Type 0 where
  pub each_message : list_all (λ m. is_message parts priorities m) messages ≡ true
  pub each_part : list_all (λ p. is_part messages p) parts ≡ true
  pub each_priority : list_all (λ p. is_priority messages p) priorities ≡ true
