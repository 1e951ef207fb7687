-- The address of a centre has a type octet and at least one octet of digits.
use Rattle.std.proofs.Common.{◌≡◌, ◌<◌, true, length, arith, ℕ, List, [], ◌∷◌, Bool, false, ◌≤◌, refl}
use Rattle.sms_base.specs.Address.{IsAddress}
use Rattle.sms_base.specs.AddressKind.{is_name}
use Rattle.sms_base.specs.declared.address.Address.{Address}
use Rattle.sms_alphabet.specs.Packing.{packed_len, value_in}
use Rattle.sms_alphabet.proofs.RoundTrip.{length-digits}
use Rattle.sms_tpdu.specs.AddressGrammar.{name_septets, semi_octets, address_value, relay_address}
use Rattle.sms_tpdu.proofs.WrittenUnits.{some_septets}

some_digits : (ds : List ℕ) → 0 < length ds → 0 < length (semi_octets ds)
some_digits [] lt = absurd (omega arith)
some_digits (d ∷ []) lt = omega arith
some_digits (d ∷ e ∷ ds) lt = omega arith

value_by : (b : Bool) (a : Address) → is_name a.ton ≡ b → IsAddress a → 0 < length (address_value b a.digits)
value_by false a is h = some_digits a.digits h.digits.some
value_by true a is h =
    let n = h.digits.name is in
    omega (arith, length-digits 256 (packed_len 0 (length (name_septets a.digits))) (value_in 128 (name_septets a.digits)), some_septets a.digits h.digits.some n.characters)

pub relay_some : (a : Address) → IsAddress a → 2 ≤ length (relay_address a)
relay_some a h = omega (arith, value_by (is_name a.ton) a refl h)
