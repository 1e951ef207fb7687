-- The first octet of a frame (3GPP TS 24.011 8.2.2): which unit it is, in the direction in which it is sent.
use Rattle.std.specs.Prelude.{ℕ, List, [], ◌∷◌, Option, ◌==◌}
use Rattle.std.specs.List.{find}
use Rattle.sms_relay.specs.declared.message_type.Direction.{Direction}
use Rattle.sms_relay.specs.declared.message_type.Direction.TheVariants.{Up, Down}
use Rattle.sms_relay.specs.declared.message_type.MessageType.{MessageType}
use Rattle.sms_relay.specs.declared.message_type.MessageType.TheVariants.{Data, Ack, Error, Smma}

-- the octet of each type, from the handset and to it; RP-SMMA is sent up alone, and 7 is reserved
abbrev pub type_octet : Direction → MessageType → ℕ
type_octet Up Data = 0
type_octet Up Ack = 2
type_octet Up Error = 4
type_octet Up Smma = 6
type_octet Down Data = 1
type_octet Down Ack = 3
type_octet Down Error = 5
type_octet Down Smma = 7

-- the types that there are
abbrev pub types : List MessageType
types = Data ∷ Ack ∷ Error ∷ Smma ∷ []

-- the type that an octet names in a direction, if it names one
unfoldable pub type_of : Direction → ℕ → Option MessageType
type_of direction octet = find (λ kind. type_octet direction kind == octet) types
