-- What is written of addresses, by its parts.
use Rattle.std.proofs.Common.{◌≡◌, ℕ, suc, ◌+◌, ◌-◌, ◌/◌, ◌%◌, ◌<◌, ◌≤◌, Bool, true, false, List, [], ◌∷◌, ◌++◌, length, Result, Ok, Err, refl, sym, ap, ◌∙◌, append_assoc, arith}
use Rattle.std.specs.Prelude.{IfOk}
use Rattle.std.specs.declared.alloc.AllocError.{AllocError}
use Rattle.sms_base.specs.Address.{IsAddress}
use Rattle.sms_base.specs.AddressKind.{is_name}
use Rattle.sms_base.specs.declared.address.Address.{Address}
use Rattle.sms_alphabet.specs.Packing.{digits_in, packed_len, value_in}
use Rattle.sms_tpdu.specs.AddressGrammar.{name_septets, address_value, address_field, relay_address}
use Rattle.sms_tpdu.proofs.Names.{few_septets}
use Rattle.sms_tpdu.proofs.Powers.{octets_len}
use Rattle.sms_tpdu.proofs.DigitsPut.{half_len}

pub puts_octet : (out out' total : List ℕ) (count i rest o : ℕ) → i < count → o ≡ rest % 256 → out' ≡ out ++ o ∷ [] → out ++ digits_in 256 (count - i) rest ≡ total → out' ++ digits_in 256 (count - (i + 1)) (rest / 256) ≡ total
puts_octet out out' total count i rest o lt is e so_far =
    let k : count - i ≡ suc (count - (i + 1)) = omega arith in
    let tail = digits_in 256 (count - (i + 1)) (rest / 256) in
    let shape : digits_in 256 (count - i) rest ≡ o ∷ tail = ap (λ (n : ℕ). digits_in 256 n rest) k ∙ ap (λ (x : ℕ). x ∷ tail) (sym is) in
    rw e (append_assoc out (o ∷ []) tail ∙ ap (λ (l : List ℕ). out ++ l) (sym shape) ∙ so_far)

pub name_few : (a : Address) → IsAddress a → is_name a.ton ≡ true → length (name_septets a.digits) ≤ 11
name_few a h name = let n = h.digits.name name in omega (arith, few_septets a.digits, n.few)

short_by : (b : Bool) (a : Address) → is_name a.ton ≡ b → IsAddress a → length (address_value b a.digits) ≤ 10
short_by false a is h = let n = h.digits.number is in omega (arith, half_len a.digits, n.few)
short_by true a is h = omega (arith, octets_len (packed_len 0 (length (name_septets a.digits))) (value_in 128 (name_septets a.digits)), name_few a h is)

pub value_short : (a : Address) → IsAddress a → length (address_value (is_name a.ton) a.digits) ≤ 10
value_short a h = short_by (is_name a.ton) a refl h

pub field_short : (a : Address) → IsAddress a → length (address_field a) ≤ 12
field_short a h = omega (arith, value_short a h)

pub relay_short : (r : Result (List ℕ) AllocError) (a : Address) → IsAddress a → IfOk r (λ o. o ≡ relay_address a) → IfOk r (λ o. length o < 12)
relay_short (Ok o) a h e = rw e (omega (arith, value_short a h))
relay_short (Err f) a h e = tt
