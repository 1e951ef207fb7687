-- Digits of an identity, read from the left.
use Rattle.std.proofs.Common.{◌≡◌, ℕ, zero, suc, ◌+◌, ◌*◌, ◌/◌, ◌%◌, ◌^◌, ◌<◌, ◌≤◌, arith, List, [], ◌∷◌, length, take, get_or, refl, sym, ap, ◌∙◌}
use Rattle.std.proofs.Math.Nat.{pow-le-pow_right}
use Rattle.std.specs.Char.{digit_value}
use Rattle.std.specs.Str.Parse.{AllDigits, digits_value, digits_value_after}
use Rattle.std.proofs.lemmas.Int.Digits.{digits_value-lt}
use Rattle.std.proofs.lemmas.List.{length-take}
use Rattle.std.proofs.lemmas.Str.{digit_value_digit}
use Rattle.std.proofs.lemmas.Str.Parse.{digit_from_value}
use Rattle.sms_base.specs.MessageId.{IsIdText, IsMessageId, id_text}

pub digit_inside : (xs : List ℕ) (i d : ℕ) → i < length xs → AllDigits 10 xs → digit_value (get_or xs i d) < 10
digit_inside [] i d l h = absurd (omega arith)
digit_inside (x ∷ xs) zero d l h = h.0
digit_inside (x ∷ xs) (suc i) d l h = digit_inside xs i d (omega arith) h.1

-- fewer than ten digits write less than ten of them
pub few_digits : (xs : List ℕ) (i : ℕ) → i < length xs → length xs ≤ 10 → AllDigits 10 (take i xs) → digits_value 10 (take i xs) < 1000000000
few_digits xs i l m h =
    let within : length (take i xs) ≤ 9 = omega (arith, length-take i xs) in
    let power : 10 ^ length (take i xs) ≤ 10 ^ 9 = pow-le-pow_right {n = 10} (omega arith) {i = length (take i xs)} {j = 9} within in
    let nine : 10 ^ 9 ≡ 1000000000 = refl in
    omega (arith, digits_value-lt 10 (take i xs) h, power, nine)

one_digit : (c d : ℕ) → digit_value c < 10 → digit_value d < 10 → digit_value c ≡ digit_value d → c ≡ d
one_digit c d h k e = omega (arith, e, digit_value_digit c (digit_from_value c h), digit_value_digit d (digit_from_value d k))

one_text_after : (a b : ℕ) (xs ys : List ℕ) → length xs ≡ length ys → AllDigits 10 xs → AllDigits 10 ys → digits_value_after 10 a xs ≡ digits_value_after 10 b ys → (a ≡ b) × (xs ≡ ys)
one_text_after a b [] [] l h k e = (e, refl)
one_text_after a b [] (y ∷ ys) l h k e = absurd (omega (arith, l))
one_text_after a b (x ∷ xs) [] l h k e = absurd (omega (arith, l))
one_text_after a b (x ∷ xs) (y ∷ ys) l h k e =
    let rest = one_text_after (a * 10 + digit_value x) (b * 10 + digit_value y) xs ys (omega (arith, l)) h.1 k.1 e in
    let front : a ≡ b = omega (arith, rest.0, h.0, k.0) in
    let first : x ≡ y = one_digit x y h.0 k.0 (omega (arith, rest.0, h.0, k.0)) in
    (front, ap (λ (c : ℕ). c ∷ xs) first ∙ ap (λ (cs : List ℕ). y ∷ cs) rest.1)

-- an identity has one text
pub one_text : (text other : List ℕ) (n : ℕ) → IsIdText text n → IsIdText other n → text ≡ other
one_text text other n h k = (one_text_after 0 0 text other (h.ten ∙ sym k.ten) h.digits k.digits (h.value ∙ sym k.value)).1

value_of : (k : ℕ) → digit_value (48 + k % 10) ≡ k % 10
value_of k = omega (arith, digit_value_digit (48 + k % 10) (omega arith, omega arith))

is_digit : (k : ℕ) → digit_value (48 + k % 10) < 10
is_digit k = omega (arith, value_of k)

-- the text of an identity writes it
pub text_writes : (n : ℕ) → IsMessageId n → IsIdText (id_text n) n
text_writes n h =
    let d = λ (k : ℕ). is_digit k in
    let v0 = value_of n in
    let v1 = value_of (n / 10) in
    let v2 = value_of (n / 100) in
    let v3 = value_of (n / 1000) in
    let v4 = value_of (n / 10000) in
    let v5 = value_of (n / 100000) in
    let v6 = value_of (n / 1000000) in
    let v7 = value_of (n / 10000000) in
    let v8 = value_of (n / 100000000) in
    let v9 = value_of (n / 1000000000) in
    let e0 : n / 10 * 10 + n % 10 ≡ n = omega arith in
    let e1 : n / 100 * 10 + n / 10 % 10 ≡ n / 10 = omega arith in
    let e2 : n / 1000 * 10 + n / 100 % 10 ≡ n / 100 = omega arith in
    let e3 : n / 10000 * 10 + n / 1000 % 10 ≡ n / 1000 = omega arith in
    let e4 : n / 100000 * 10 + n / 10000 % 10 ≡ n / 10000 = omega arith in
    let e5 : n / 1000000 * 10 + n / 100000 % 10 ≡ n / 100000 = omega arith in
    let e6 : n / 10000000 * 10 + n / 1000000 % 10 ≡ n / 1000000 = omega arith in
    let e7 : n / 100000000 * 10 + n / 10000000 % 10 ≡ n / 10000000 = omega arith in
    let e8 : n / 1000000000 * 10 + n / 100000000 % 10 ≡ n / 100000000 = omega arith in
    let top : 0 * 10 + n / 1000000000 % 10 ≡ n / 1000000000 = omega (arith, h.short) in
    record {
      ten = refl;
      digits = (d (n / 1000000000), (d (n / 100000000), (d (n / 10000000), (d (n / 1000000), (d (n / 100000), (d (n / 10000), (d (n / 1000), (d (n / 100), (d (n / 10), (d n, tt))))))))));
      value = rw (v9, v8, v7, v6, v5, v4, v3, v2, v1, v0) (rw (top, e8, e7, e6, e5, e4, e3, e2, e1, e0) refl);
    }
