-- Reading the fields of PDUs from left to right, with the first fault.
use Rattle.std.specs.Prelude.{ℕ, zero, suc, ◌+◌, ◌*◌, List, [], ◌∷◌, length, Result, Ok, Err, ◌||◌, ◌==◌, nat_lt, if◌then◌else◌}
use Rattle.sms_base.specs.Reading.{◌>>=◌, only_if, octet_in, run_in}
use Rattle.smpp_pdu.specs.declared.fault.PduFault.{PduFault}
use Rattle.smpp_pdu.specs.declared.fault.PduFault.TheVariants.{Truncated, NoTerminator, FieldTooLong, ShortMessageTooLong}

unfoldable pub two_in : PduFault → List ℕ → Result (ℕ × List ℕ) PduFault
two_in fault octets = do
  high ← octet_in fault octets
  low ← octet_in fault high.1
  Ok (256 * high.0 + low.0, low.1)

unfoldable pub four_in : List ℕ → Result (ℕ × List ℕ) PduFault
four_in octets = do
  high ← two_in Truncated octets
  low ← two_in Truncated high.1
  Ok (65536 * high.0 + low.0, low.1)

-- the octets before NUL, which is among the next so many
unfoldable pub text_in : ℕ → List ℕ → Result (List ℕ × List ℕ) PduFault
text_in zero octets = Err FieldTooLong
text_in (suc limit) [] = Err NoTerminator
text_in (suc limit) (octet ∷ rest) =
    if octet == 0 then Ok ([], rest) else (do
      more ← text_in limit rest
      Ok (octet ∷ more.0, more.1))

-- a string of which no octet is there has not begun
unfoldable pub c_string_in : ℕ → List ℕ → Result (List ℕ × List ℕ) PduFault
c_string_in limit [] = Err Truncated
c_string_in limit (octet ∷ rest) = text_in limit (octet ∷ rest)

unfoldable pub time_in : List ℕ → Result (List ℕ × List ℕ) PduFault
time_in octets = do
  time ← c_string_in 17 octets
  known ← only_if ((length time.0 == 0) || (length time.0 == 16)) FieldTooLong
  Ok (time.0, time.1)

unfoldable pub short_message_in : List ℕ → Result (List ℕ × List ℕ) PduFault
short_message_in octets = do
  sm_length ← octet_in Truncated octets
  short ← only_if (nat_lt sm_length.0 255) ShortMessageTooLong
  run_in Truncated sm_length.0 sm_length.1
