-- The digits of a number, character by character.
use Rattle.std.proofs.Common.{◌≡◌, ℕ, ◌+◌, ◌<◌, ◌≤◌, true, false, cond, ltb, List, [], ◌∷◌, ◌++◌, length, get_or, take, drop, Some, None, Ok, Err, refl, sym, ap, ◌∙◌, arith}
use Rattle.std.proofs.lemmas.Bool.{lt-ltb, le-ltb}
use Rattle.std.proofs.lemmas.List.{at_drop_more, at_drop_all, take_more, take_all, length_push}
use Rattle.sms_base.specs.SemiOctet.{is_digit}
use Rattle.sms_base.specs.Address.{number_fault, unless}
use Rattle.sms_base.specs.declared.address_error.AddressError.TheVariants.{TooLong, BadDigit}

-- so many characters are digits and stand in the list
pub record Walked (text digits : List ℕ) (n : ℕ) : Type 0 where
  pub count : length digits ≡ n
  pub room : n ≤ 20
  pub front : digits ≡ take n text
  pub same : number_fault 0 text ≡ number_fault n (drop n text)

pub walked_none : (text : List ℕ) → Walked text [] 0
walked_none text = record { count = refl; room = omega arith; front = refl; same = refl }

one_more : (text : List ℕ) (n c : ℕ) → (n < length text) × (c ≡ get_or text n c) → number_fault n (drop n text) ≡ cond (ltb n 20) (cond (is_digit c) (number_fault (n + 1) (drop (n + 1) text)) (Some BadDigit)) (Some TooLong)
unfolding number_fault
one_more text n c h =
    at_drop_more (λ cs. number_fault n cs) text n c h.0 ∙ ap (λ x. cond (ltb n 20) (cond (is_digit x) (number_fault (n + 1) (drop (n + 1) text)) (Some BadDigit)) (Some TooLong)) (sym h.1)

pub walked_more : (text digits : List ℕ) (n c : ℕ) → Walked text digits n → (n < length text) × (c ≡ get_or text n c) → n < 20 → is_digit c ≡ true → Walked text (digits ++ c ∷ []) (n + 1)
walked_more text digits n c w h lt ok = record {
  count = omega (arith, w.count, length_push digits c);
  room = omega arith;
  front = ap (λ (ds : List ℕ). ds ++ c ∷ []) w.front ∙ ap (λ (x : ℕ). take n text ++ x ∷ []) h.1 ∙ sym (take_more text n c h.0);
  same = w.same ∙ one_more text n c h ∙ rw (lt-ltb n 20 lt, ok) refl;
}

pub too_long : (text digits : List ℕ) (n c : ℕ) → Walked text digits n → (n < length text) × (c ≡ get_or text n c) → n ≡ 20 → unless (number_fault 0 text) text ≡ Err TooLong
too_long text digits n c w h e =
    let f : number_fault 0 text ≡ Some TooLong = w.same ∙ one_more text n c h ∙ rw (le-ltb n 20 (omega arith)) refl in
    rw f refl

pub bad_digit : (text digits : List ℕ) (n c : ℕ) → Walked text digits n → (n < length text) × (c ≡ get_or text n c) → n < 20 → is_digit c ≡ false → unless (number_fault 0 text) text ≡ Err BadDigit
bad_digit text digits n c w h lt bad =
    let f : number_fault 0 text ≡ Some BadDigit = w.same ∙ one_more text n c h ∙ rw (lt-ltb n 20 lt, bad) refl in
    rw f refl

pub walked_all : (text digits : List ℕ) (n : ℕ) → Walked text digits n → n ≡ length text → unless (number_fault 0 text) text ≡ Ok digits
unfolding number_fault
walked_all text digits n w e =
    let f : number_fault 0 text ≡ None = w.same ∙ at_drop_all (λ cs. number_fault n cs) text n (omega arith) in
    let whole : digits ≡ text = w.front ∙ take_all n text (omega arith) in
    rw (f, whole) refl
