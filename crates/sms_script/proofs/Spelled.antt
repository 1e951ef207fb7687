-- Digits that spell octets are decoded as these.
use Rattle.std.proofs.Common.{◌≡◌, ℕ, ◌+◌, ◌%◌, true, List, [], ◌∷◌, length, Option, Some, None, Ok, refl, ◌∙◌, arith, eqb-true}
use Rattle.std.specs.Prelude.{◌==◌, is_some}
use Rattle.std.specs.List.{list_all}
use Rattle.std.specs.Option.{unwrap_or}
use Rattle.std.proofs.lemmas.Bool.{and_parts}
use Rattle.hex.specs.Hex.{decode_of, decode_pairs, value_at, digit_or_error, hex_digit_value, is_hex_digit}
use Rattle.hex.proofs.HexLemmas.{decode_of-even}
use Rattle.sms_script.specs.Hexadecimal.{spells, spelled, digit_or_zero}

value_by : (c i : ℕ) (o : Option ℕ) → is_some o ≡ true → digit_or_error c i o ≡ Ok (unwrap_or o 0)
value_by c i (Some v) e = refl
value_by c i None e = absurd (cc)

value_is : (c i : ℕ) → is_hex_digit c ≡ true → value_at c i ≡ Ok (digit_or_zero c)
value_is c i e = value_by c i (hex_digit_value c) e

pairs_are : (i : ℕ) (s : List ℕ) → length s % 2 ≡ 0 → list_all is_hex_digit s ≡ true → decode_pairs i s ≡ Ok (spelled s)
unfolding decode_pairs
pairs_are i [] even all = refl
pairs_are i (digit ∷ []) even all = absurd (omega arith)
pairs_are i (high ∷ low ∷ rest) even all =
    let one = and_parts (is_hex_digit high) (list_all is_hex_digit (low ∷ rest)) all in
    let two = and_parts (is_hex_digit low) (list_all is_hex_digit rest) one.1 in
    let again = pairs_are (i + 2) rest (omega arith) two.1 in
    rw (value_is high i one.0, value_is low (i + 1) two.0, again) refl

pub decoded_are : (s : List ℕ) → spells s ≡ true → decode_of s ≡ Ok (spelled s)
decoded_are s e =
    let both = and_parts (length s % 2 == 0) (list_all is_hex_digit s) e in
    let even : length s % 2 ≡ 0 = eqb-true (length s % 2) 0 both.0 in
    decode_of-even s even ∙ pairs_are 0 s even both.1
