-- TP-MMS (3GPP TS 23.040 9.2.3.2) is bit 2 of the first octet of a TPDU that is sent down in RP-DATA. It is 0 where more
-- messages wait for the handset, and 1 where none does. It is set each time that the TPDU is sent. So a TPDU that is sent
-- again may differ in it, and TPDUs are compared without it.
use Rattle.std.specs.Prelude.{ℕ, ◌+◌, ◌*◌, ◌/◌, ◌%◌, List, [], ◌∷◌, Bool, false, not, Result, Ok, Err}
use Rattle.std.specs.Str.{bytes_eq}
use Rattle.sms_tpdu.specs.Bits.{bit_value}
use Rattle.sms_tpdu.specs.declared.fault.TpduFault.{TpduFault}
use Rattle.sms_tpdu.specs.declared.down.Down.{Down}
use Rattle.sms_tpdu.specs.declared.down.Down.TheVariants.{Deliver, StatusReport, SubmitReport}

-- the first octet with bit 2, of value 4, set so: the bits above it, it, the bits below it
abbrev pub octet_with_more_messages : Bool → ℕ → ℕ
octet_with_more_messages more first = 8 * (first / 8) + bit_value (not more) 4 + first % 4

-- the octets, with the bit that says whether more messages wait
abbrev pub with_more_messages : Bool → List ℕ → List ℕ
with_more_messages more [] = []
with_more_messages more (first ∷ rest) = octet_with_more_messages more first ∷ rest

-- the octets by which a TPDU is compared with another: with the bit that says that no more messages wait
unfoldable pub compared : List ℕ → List ℕ
compared octets = with_more_messages false octets

-- the octets are one TPDU, sent twice
abbrev pub same_message : List ℕ → List ℕ → Bool
same_message one other = bytes_eq (compared one) (compared other)

-- the TPDU with the bit that says whether more messages wait; in a SUBMIT-REPORT the bit has no meaning
abbrev pub tpdu_with_more_messages : Bool → Down → Down
tpdu_with_more_messages more (Deliver d) = Deliver (record d { no_more_messages_to_send = not more })
tpdu_with_more_messages more (StatusReport r) = StatusReport (record r { no_more_messages_to_send = not more })
tpdu_with_more_messages more (SubmitReport r) = SubmitReport r

abbrev pub reading_with_more_messages : Bool → Result Down TpduFault → Result Down TpduFault
reading_with_more_messages more (Ok tpdu) = Ok (tpdu_with_more_messages more tpdu)
reading_with_more_messages more (Err fault) = Err fault
