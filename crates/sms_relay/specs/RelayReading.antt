-- Reading a unit of the relay layer from left to right, with the first fault that is met. An octet that is there and
-- wrong precedes octets that are missing behind it. Octets that are left over are the last fault.
use Rattle.std.specs.Prelude.{ℕ, List, [], ◌∷◌, Option, Some, None, Result, Ok, Err, not, ◌&&◌, ◌||◌, nat_lt, ◌==◌, if◌then◌else◌}
use Rattle.sms_base.specs.Reading.{◌>>=◌, only_if, octet_in, run_in, end_in}
use Rattle.sms_relay.specs.declared.cause.RpCause.{RpCause}
use Rattle.sms_relay.specs.declared.fault.RelayFault.{RelayFault}
use Rattle.sms_relay.specs.declared.fault.RelayFault.TheVariants.{Truncated, Trailing, Unknown, BadLength}
use Rattle.sms_relay.specs.declared.frame.Rp.{Rp}
use Rattle.sms_relay.specs.declared.frame.Rp.TheVariants.{DataUnit, AckUnit, ErrorUnit, Smma}
use Rattle.sms_relay.specs.declared.message_type.Direction.{Direction}
use Rattle.sms_relay.specs.declared.message_type.Direction.TheVariants.{Up, Down}
use Rattle.sms_relay.specs.declared.message_type.MessageType.{MessageType}
use Rattle.sms_relay.specs.declared.message_type.MessageType.TheVariants.{Data, Ack, Error, Smma as SmmaType}
use Rattle.sms_relay.specs.Cause.{cause_of}
use Rattle.sms_relay.specs.MessageType.{type_of}

-- ---- the fields

-- the address of the centre
unfoldable pub centre_in : List ℕ → Result (List ℕ × List ℕ) RelayFault
centre_in octets = do
  count ← octet_in Truncated octets
  fits ← only_if (not (nat_lt count.0 2) && nat_lt count.0 12) BadLength
  run_in Truncated count.0 count.1

-- the address of the other side, which is empty
unfoldable pub nobody_in : List ℕ → Result (Unit {0} × List ℕ) RelayFault
nobody_in octets = do
  count ← octet_in Truncated octets
  empty ← only_if (count.0 == 0) BadLength
  Ok (tt, count.1)

-- the addresses of an RP-DATA, the originator's first: that of the centre and an empty one
unfoldable pub addresses_in : Direction → List ℕ → Result (List ℕ × List ℕ) RelayFault
addresses_in Up octets = do
  originator ← nobody_in octets
  centre_in originator.1
addresses_in Down octets = do
  centre ← centre_in octets
  destination ← nobody_in centre.1
  Ok (centre.0, destination.1)

-- a length and a TPDU
unfoldable pub tpdu_in : List ℕ → Result (List ℕ × List ℕ) RelayFault
tpdu_in octets = do
  count ← octet_in Truncated octets
  run_in Truncated count.0 count.1

-- user data where its identifier is there, else none
unfoldable pub user_data_in : List ℕ → Result (Option (List ℕ) × List ℕ) RelayFault
user_data_in [] = Ok (None, [])
user_data_in (identifier ∷ rest) =
    if identifier == 65
    then (tpdu_in rest >>= (λ unit. Ok (Some unit.0, unit.1)))
    else Ok (None, identifier ∷ rest)

-- a cause; its diagnostic, where there is one, is passed over
unfoldable pub cause_in : List ℕ → Result (RpCause × List ℕ) RelayFault
cause_in octets = do
  count ← octet_in Truncated octets
  known ← only_if (count.0 == 1 || count.0 == 2) BadLength
  number ← octet_in Truncated count.1
  fits ← only_if (nat_lt number.0 128) BadLength
  if count.0 == 1
      then Ok (cause_of number.0, number.1)
      else (octet_in Truncated number.1 >>= (λ diagnostic. Ok (cause_of number.0, diagnostic.1)))

-- ---- the units, behind their type

unfoldable pub data_in : Direction → List ℕ → Result (Rp × List ℕ) RelayFault
data_in direction octets = do
  reference ← octet_in Truncated octets
  centre ← addresses_in direction reference.1
  unit ← tpdu_in centre.1
  Ok (DataUnit reference.0 centre.0 unit.0, unit.1)

unfoldable pub ack_in : List ℕ → Result (Rp × List ℕ) RelayFault
ack_in octets = do
  reference ← octet_in Truncated octets
  unit ← user_data_in reference.1
  Ok (AckUnit reference.0 unit.0, unit.1)

unfoldable pub error_in : List ℕ → Result (Rp × List ℕ) RelayFault
error_in octets = do
  reference ← octet_in Truncated octets
  cause ← cause_in reference.1
  unit ← user_data_in cause.1
  Ok (ErrorUnit reference.0 cause.0 unit.0, unit.1)

-- RP-SMMA is sent up alone
unfoldable pub smma_in : Direction → List ℕ → Result (Rp × List ℕ) RelayFault
smma_in Up octets = do
  reference ← octet_in Truncated octets
  Ok (Smma reference.0, reference.1)
smma_in Down octets = Err Unknown

-- the unit of a type
abbrev pub unit_of : Option MessageType → Direction → List ℕ → Result (Rp × List ℕ) RelayFault
unit_of (Some Data) direction octets = data_in direction octets
unit_of (Some Ack) direction octets = ack_in octets
unit_of (Some Error) direction octets = error_in octets
unit_of (Some SmmaType) direction octets = smma_in direction octets
unit_of None direction octets = Err Unknown

-- ---- whole lists

unfoldable pub unit_in : Direction → List ℕ → Result (Rp × List ℕ) RelayFault
unit_in direction octets = do
  kind ← octet_in Truncated octets
  unit_of (type_of direction kind.0) direction kind.1

-- what the octets are as a unit that is sent in a direction
unfoldable pub unit_at : Direction → List ℕ → Result Rp RelayFault
unit_at direction octets = do
  rp ← unit_in direction octets
  done ← end_in Trailing rp.1
  Ok rp.0

-- what the octets are as a unit from the handset
unfoldable pub up_at : List ℕ → Result Rp RelayFault
up_at octets = unit_at Up octets

-- what the octets are as a unit to the handset
unfoldable pub down_at : List ℕ → Result Rp RelayFault
down_at octets = unit_at Down octets
