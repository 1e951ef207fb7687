-- The number that an application writes is the one that its ten digits write.
use Rattle.std.proofs.Common.{◌≡◌, ℕ, ◌+◌, ◌-◌, ◌*◌, ◌^◌, ◌<◌, ◌≤◌, arith, List, [], ◌∷◌, length, Bool, true, false, Option, Some, None, refl, sym, ◌∙◌, ap, subst, ⊎_elim}
use Rattle.std.specs.Prelude.{◌==◌, ◌&&◌, nat_le, nat_lt, IfSome}
use Rattle.std.specs.Char.{digit_value}
use Rattle.std.specs.List.{list_all}
use Rattle.std.specs.Str.Parse.{AllDigits, digits_value, digits_value_after}
use Rattle.std.proofs.lemmas.Bool.{and_from, and_parts, cases_Bool, cond-false, cond-true, eq-eqb, eqb-true, le-leb, leb-true, lt-ltb, ltb-true}
use Rattle.std.proofs.lemmas.Int.Digits.{digits_value-lt}
use Rattle.std.proofs.lemmas.Str.{digit_value_digit}
use Rattle.std.proofs.lemmas.Str.Parse.{digit_from_value}
use Rattle.sms_base.specs.HandsetNumber.{is_decimal}
use Rattle.sms_base.specs.MessageId.{IsIdText, IsMessageId}
use Rattle.sms_centre_spec.specs.Numbers.{decimal_value, id_in}

-- ---- digits

decimal_value_of : (c : ℕ) → 48 ≤ c → c ≤ 57 → digit_value c + 48 ≡ c
decimal_value_of c low high = digit_value_digit c (low, high)

all_digits : (text : List ℕ) → list_all is_decimal text ≡ true → AllDigits 10 text
all_digits [] e = tt
all_digits (c ∷ cs) e =
    let both = and_parts (is_decimal c) (list_all is_decimal cs) e in
    let range = and_parts (nat_le 48 c) (nat_le c 57) both.0 in
    let low = leb-true 48 c range.0 in
    let high = leb-true c 57 range.1 in
    let value = decimal_value_of c low high in
    (omega (arith, value, high), all_digits cs both.1)

are_decimal : (text : List ℕ) → AllDigits 10 text → list_all is_decimal text ≡ true
are_decimal [] h = refl
are_decimal (c ∷ cs) h =
    let range = digit_from_value c h.0 in
    let low : 48 ≤ c = range.0 in
    let high : c ≤ 57 = range.1 in
    and_from (is_decimal c) (list_all is_decimal cs) (and_from (nat_le 48 c) (nat_le c 57) (le-leb 48 c low) (le-leb c 57 high)) (are_decimal cs h.1)

same_values : (n : ℕ) (text : List ℕ) → AllDigits 10 text → digits_value_after 10 n text ≡ decimal_value n text
same_values n [] h = refl
same_values n (c ∷ cs) h =
    let range = digit_from_value c h.0 in
    let value = decimal_value_of c range.0 range.1 in
    let same : n * 10 + digit_value c ≡ 10 * n + (c - 48) = omega (arith, value) in
    ap (λ (k : ℕ). digits_value_after 10 k cs) same ∙ same_values (10 * n + (c - 48)) cs h.1

-- ten digits write less than eleven of them
short : (text : List ℕ) → length text ≡ 10 → AllDigits 10 text → digits_value 10 text ≤ 9999999999
short text ten h =
    let below : digits_value 10 text < 10 ^ length text = digits_value-lt 10 text h in
    let power : 10 ^ length text ≡ 10000000000 = ap (λ (n : ℕ). 10 ^ n) ten in
    omega (arith, below, power)

-- ---- the number

abbrev is_id_text : List ℕ → Bool
is_id_text text = ((length text == 10) && list_all is_decimal text) && nat_lt 0 (decimal_value 0 text)

text_of : (text : List ℕ) → is_id_text text ≡ true → IsIdText text (decimal_value 0 text) × IsMessageId (decimal_value 0 text)
text_of text e =
    let parts = and_parts ((length text == 10) && list_all is_decimal text) (nat_lt 0 (decimal_value 0 text)) e in
    let front = and_parts (length text == 10) (list_all is_decimal text) parts.0 in
    let ten : length text ≡ 10 = eqb-true (length text) 10 front.0 in
    let digits = all_digits text front.1 in
    let value = same_values 0 text digits in
    let less = short text ten digits in
    (record { ten = ten; digits = digits; value = value }, record { some = ltb-true 0 (decimal_value 0 text) parts.1; short = omega (arith, value, less) })

is_text : (text : List ℕ) (id : ℕ) → IsIdText text id → 0 < id → is_id_text text ≡ true
is_text text id is some =
    let value : decimal_value 0 text ≡ id = sym (same_values 0 text is.digits) ∙ is.value in
    and_from ((length text == 10) && list_all is_decimal text) (nat_lt 0 (decimal_value 0 text))
    (and_from (length text == 10) (list_all is_decimal text) (eq-eqb (length text) 10 is.ten) (are_decimal text is.digits))
    (lt-ltb 0 (decimal_value 0 text) (omega (arith, value, some)))

-- what is read is the number
pub read_some : (text : List ℕ) (o : Option ℕ) (id : ℕ) → o ≡ Some id → IfSome o (λ n. IsIdText text n) → 0 < id → Some id ≡ id_in text
read_some text o id e found some =
    let is : IsIdText text id = subst (λ (x : Option ℕ). IfSome x (λ n. IsIdText text n)) e found in
    let value : id ≡ decimal_value 0 text = sym is.value ∙ same_values 0 text is.digits in
    ap (λ (n : ℕ). Some n) value ∙ sym (cond-true (is_id_text text) (Some (decimal_value 0 text)) None (is_text text id is some))

pub read_none : (text : List ℕ) (o : Option ℕ) → o ≡ None → ((n : ℕ) → IsMessageId n → IsIdText text n → o ≡ Some n) → None ≡ id_in text
read_none text o e only = ⊎_elim
    (λ (t : is_id_text text ≡ true). let is = text_of text t in let bad : None ≡ Some (decimal_value 0 text) = sym e ∙ only (decimal_value 0 text) is.1 is.0 in absurd cc)
    (λ (f : is_id_text text ≡ false). sym (cond-false (is_id_text text) (Some (decimal_value 0 text)) None f))
    (cases_Bool (is_id_text text))
