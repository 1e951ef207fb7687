-- Numbers of so many digits in base 256.
use Rattle.std.proofs.Common.{◌≡◌, ℕ, zero, suc, ◌+◌, ◌*◌, ◌/◌, ◌^◌, ◌<◌, ◌≤◌, List, [], ◌∷◌, length, refl, ap, arith}
use Rattle.std.proofs.Math.Nat.{pow-succ', pow-le-pow_right}
use Rattle.std.proofs.lemmas.Nat.{pow-add}
use Rattle.sms_base.specs.Reading.{AreOctets}
use Rattle.sms_alphabet.specs.Packing.{value_in, digits_in, packed_len}
use Rattle.sms_alphabet.proofs.Held.{septet_power, octet_power}

eleven : 256 ^ 11 ≡ 309485009821345068724781056
eleven = refl

pub below_eleven : (n v : ℕ) → n ≤ 11 → v < 256 ^ n → v < 309485009821345068724781056
below_eleven n v le lt =
    let up : 256 ^ n ≤ 256 ^ 11 = pow-le-pow_right (omega arith) le in
    omega (arith, up, eleven)

pub one_before : (n a v : ℕ) → a < 256 → v < 256 ^ n → a + 128 * v < 256 ^ (n + 1)
one_before n a v la lv =
    let e : 256 ^ (n + 1) ≡ 256 ^ n * 256 ^ 1 = pow-add 256 n 1 in
    let f : 256 ^ n * 256 ^ 1 ≡ 256 * 256 ^ n = omega arith in
    omega (arith, e, f)

pub two_before : (n a b v : ℕ) → a < 256 → b < 256 → v < 256 ^ n → a + 128 * (b + 128 * v) < 256 ^ (n + 2)
two_before n a b v la lb lv =
    let one = one_before n b v lb lv in
    let two = one_before (n + 1) a (b + 128 * v) la one in
    let k : n + 1 + 1 ≡ n + 2 = omega arith in
    omega (arith, two, ap (λ (i : ℕ). 256 ^ i) k)

pub value_below : (xs : List ℕ) → AreOctets xs → value_in 256 xs < 256 ^ length xs
value_below [] h = omega arith
value_below (x ∷ xs) h = omega (arith, h.0, value_below xs h.1, pow-succ' 256 (length xs))

pub value_more : (n o v : ℕ) → o < 256 → v < 256 ^ n → o + 256 * v < 256 ^ (n + 1)
value_more n o v lo lv =
    let e : 256 ^ (n + 1) ≡ 256 ^ n * 256 ^ 1 = pow-add 256 n 1 in
    let f : 256 ^ n * 256 ^ 1 ≡ 256 * 256 ^ n = omega arith in
    omega (arith, e, f)

pub octets_len : (n v : ℕ) → length (digits_in 256 n v) ≡ n
octets_len zero v = refl
octets_len (suc n) v = ap suc (octets_len n (v / 256))

-- as many octets as hold so many septets hold each number of so many
pub holds : (n v : ℕ) → v < 128 ^ n → v < 256 ^ packed_len 0 n
holds n v lt =
    let k = packed_len 0 n in
    let up : 2 ^ (7 * n) ≤ 2 ^ (8 * k) = pow-le-pow_right (omega arith) (omega arith) in
    omega (arith, septet_power n, octet_power k, up)
