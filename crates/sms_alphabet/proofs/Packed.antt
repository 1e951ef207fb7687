-- Septets are packed into one list of octets, and that list is their packing.
use Rattle.std.proofs.Common.{◌≡◌, ℕ, zero, suc, ◌+◌, ◌*◌, ◌/◌, ◌%◌, ◌^◌, ◌<◌, ◌≤◌, List, [], ◌∷◌, length, refl, sym, ap, ◌∙◌, arith}
use Rattle.std.proofs.Math.Nat.{pow-succ', pow-zero, pow-le-pow_right, mul-le-mul_left, mul-add}
use Rattle.std.proofs.lemmas.Nat.{pow-add}
use Rattle.sms_base.specs.Reading.{AreOctets}
use Rattle.sms_alphabet.specs.Packing.{IsPacking, AreSeptets, value_in, packed, packed_len, digits_in}
use Rattle.sms_alphabet.proofs.RoundTrip.{length-digits, value-below}
use Rattle.sms_alphabet.proofs.Held.{septet_power, octet_power}

-- octets are the digits of their value

pub digits_of_value : (o : List ℕ) → AreOctets o → digits_in 256 (length o) (value_in 256 o) ≡ o
digits_of_value [] h = refl
digits_of_value (x ∷ xs) h =
    let small : x < 256 = h.0 in
    let low : (x + 256 * value_in 256 xs) % 256 ≡ x = omega arith in
    let high : (x + 256 * value_in 256 xs) / 256 ≡ value_in 256 xs = omega arith in
    ap (λ (d : ℕ). d ∷ digits_in 256 (length xs) ((x + 256 * value_in 256 xs) / 256)) low
    ∙ ap (λ (v : ℕ). x ∷ digits_in 256 (length xs) v) high ∙ ap (λ (ds : List ℕ). x ∷ ds) (digits_of_value xs h.1)

pub packing_is : (septets octets : List ℕ) (fill : ℕ) → AreOctets octets → IsPacking septets fill octets → octets ≡ packed fill septets
packing_is septets octets fill h p =
    sym (digits_of_value octets h) ∙ ap (λ (n : ℕ). digits_in 256 n (value_in 256 octets)) p.length_is
    ∙ ap (λ (v : ℕ). digits_in 256 (packed_len fill (length septets)) v) p.value_is

-- the value of those digits

pub value_in-digits : (n v : ℕ) → v < 256 ^ n → value_in 256 (digits_in 256 n v) ≡ v
value_in-digits zero v h = let one = pow-zero 256 in omega arith
value_in-digits (suc n) v h =
    let more = pow-succ' 256 n in
    let rest = value_in-digits n (v / 256) (omega (arith, more)) in
    omega (arith, rest)

pub power_above : (n : ℕ) → 1 ≤ 2 ^ n
power_above zero = omega (arith, pow-zero 2)
power_above (suc n) = omega (arith, pow-succ' 2 n, power_above n)

pub packed_value : (fill : ℕ) (units : List ℕ) → AreSeptets units → 2 ^ fill * value_in 128 units < 256 ^ packed_len fill (length units)
packed_value fill units h =
    let n = length units in
    let p = 2 ^ fill in
    let v = value_in 128 units in
    let lt = value-below units h in
    let below : v + 1 ≤ 128 ^ n = omega arith in
    let times : p * (v + 1) ≤ p * 128 ^ n = mul-le-mul_left p below in
    let spread : p * (v + 1) ≡ p * v + p * 1 = mul-add p v 1 in
    let one : p * 1 ≡ p = omega arith in
    let some : 1 ≤ p = power_above fill in
    let bits : p * 128 ^ n ≡ 2 ^ (fill + 7 * n) = ap (λ (q : ℕ). p * q) (septet_power n) ∙ sym (pow-add 2 fill (7 * n)) in
    let room : 2 ^ (fill + 7 * n) ≤ 2 ^ (8 * packed_len fill n) = pow-le-pow_right {n = 2} (omega arith) {i = fill + 7 * n} {j = 8 * packed_len fill n} (omega arith) in
    let octets : 256 ^ packed_len fill n ≡ 2 ^ (8 * packed_len fill n) = octet_power (packed_len fill n) in
    omega arith

pub packed_is_packing : (fill : ℕ) (septets : List ℕ) → AreSeptets septets → IsPacking septets fill (packed fill septets)
packed_is_packing fill septets h = record {
  length_is = length-digits 256 (packed_len fill (length septets)) (2 ^ fill * value_in 128 septets);
  value_is = value_in-digits (packed_len fill (length septets)) (2 ^ fill * value_in 128 septets) (packed_value fill septets h);
}
