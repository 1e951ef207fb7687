-- Texts of decimal digits are what `parse` reads.
use Rattle.std.proofs.Common.{◌≡◌, ℕ, ◌<◌, ◌≤◌, ◌-◌, ◌^◌, Option, Some, None, IfNone, Result, Ok, Err, subst, Bool, true, false, cond, ltb, leb, List, [], ◌∷◌, drop, length, refl, sym, ap, ◌∙◌, arith}
use Rattle.std.specs.Char.{digit_value}
use Rattle.std.specs.List.{list_all}
use Rattle.std.specs.Str.Parse.{AllDigits, IsNumeral, ParsesUnsigned, digits_value, without_leading_plus}
use Rattle.std.proofs.lemmas.Bool.{le-ltb, lt-ltb, leb-true, ne_eqb, and_parts}
use Rattle.sms_base.specs.HandsetNumber.{is_decimal}
use Rattle.smsc_cli.specs.words.Numbers.{SpellsCount}

between : (c : ℕ) → is_decimal c ≡ true → (48 ≤ c) × (c ≤ 57)
between c e = let h = and_parts (leb 48 c) (leb c 57) e in (leb-true 48 c h.0, leb-true c 57 h.1)

-- no sign is in front
pub no_plus : (text : List ℕ) → list_all is_decimal text ≡ true → without_leading_plus text ≡ text
no_plus [] e = refl
no_plus (c ∷ cs) e =
    let h = between c (and_parts (is_decimal c) (list_all is_decimal cs) e).0 in
    let low = h.0 in
    ap (λ (b : Bool). drop (cond b 1 0) (c ∷ cs)) (ne_eqb c 43 (λ q. omega (arith, low, q)))

digit_below : (c : ℕ) → is_decimal c ≡ true → digit_value c < 10
digit_below c e =
    let h = between c e in let low = h.0 in let high = h.1 in
    let p : ltb c 48 ≡ false = le-ltb c 48 low in
    let q : ltb c 58 ≡ true = lt-ltb c 58 (omega (arith, high)) in
    let v : digit_value c ≡ c - 48 = rw (p, q) refl in
    omega (arith, v, high)

all_digits : (text : List ℕ) → list_all is_decimal text ≡ true → AllDigits 10 text
all_digits [] e = tt
all_digits (c ∷ cs) e = let h = and_parts (is_decimal c) (list_all is_decimal cs) e in (digit_below c h.0, all_digits cs h.1)

pub numeral : (text : List ℕ) → 0 < length text → list_all is_decimal text ≡ true → IsNumeral 10 text
numeral text some e = (some, all_digits text e)

-- `parse` reads what spells a number of its type
pub parsed : {E : Type 0} (k n : ℕ) (text : List ℕ) (r : Result ℕ E) → ParsesUnsigned k 10 text r → SpellsCount text n → n < 2 ^ k → r ≡ Ok n
parsed k n text (Ok x) h s less = ap (λ (y : ℕ). Ok y) (h.1 ∙ ap (digits_value 10) (no_plus text s.digits) ∙ s.value)
parsed k n text (Err e) h s less =
    absurd (h (subst (λ (t : List ℕ). IsNumeral 10 t × (digits_value 10 t < 2 ^ k)) (sym (no_plus text s.digits)) (numeral text s.some s.digits, subst (λ (m : ℕ). m < 2 ^ k) (sym s.value) less)))

-- what holds anyhow holds of nothing
pub if_none : {A : Type 0} {P : Type 0} (r : Option A) → P → IfNone r P
if_none None holds = holds
if_none (Some x) holds = tt
