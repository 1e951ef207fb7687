-- The address of a centre fits a relay unit: it has a type octet, and one to ten octets of digits.
use Rattle.std.proofs.Common.{◌<◌, ℕ, List, length, refl, arith, Result, Ok}
use Rattle.std.specs.declared.alloc.AllocError.{AllocError}
use Rattle.sms_base.specs.Address.{IsAddress}
use Rattle.sms_base.specs.declared.address.Address.{Address}
use Rattle.sms_relay.specs.RelayGrammar.{IsCentre}
use Rattle.sms_tpdu.specs.AddressGrammar.{relay_address}
use Rattle.sms_tpdu.proofs.NameValues.{relay_short}
use Rattle.sms_tpdu.proofs.RelayAddresses.{relay_some}

pub centre_is : (a : Address) → IsAddress a → IsCentre (relay_address a)
centre_is a h =
    let r : Result (List ℕ) AllocError = Ok (relay_address a) in
    let few : length (relay_address a) < 12 = relay_short r a h refl in
    (relay_some a h, omega (arith, few))
