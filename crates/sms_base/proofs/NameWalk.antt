-- The characters of a name, one by one.
use Rattle.std.proofs.Common.{◌≡◌, ℕ, ◌+◌, ◌<◌, ◌≤◌, true, false, cond, ltb, List, [], ◌∷◌, ◌++◌, length, get_or, take, drop, Option, Some, None, Ok, Err, refl, sym, ap, ◌∙◌, arith}
use Rattle.std.proofs.lemmas.Bool.{lt-ltb, le-ltb}
use Rattle.std.proofs.lemmas.List.{at_drop_more, at_drop_all, take_more, take_all, length_push}
use Rattle.sms_base.specs.Alphabet.{code_for}
use Rattle.sms_base.specs.Address.{name_fault, unless, width_of, has_code}
use Rattle.sms_base.specs.declared.alphabet.Code.{Code}
use Rattle.sms_base.specs.declared.alphabet.Code.TheVariants.{Main, Extended}
use Rattle.sms_base.specs.declared.address_error.AddressError.TheVariants.{TooLong, BadName}

pub width_bounds : (code : Option Code) → (1 ≤ width_of code) × (width_of code ≤ 2)
width_bounds None = (omega arith, omega arith)
width_bounds (Some (Main s)) = (omega arith, omega arith)
width_bounds (Some (Extended s)) = (omega arith, omega arith)

-- so many characters, of so many septets, have codes and stand in the list
pub record Named (text digits : List ℕ) (n septets : ℕ) : Type 0 where
  pub count : length digits ≡ n
  pub room : septets ≤ 11
  pub few : n ≤ septets
  pub front : digits ≡ take n text
  pub same : name_fault 0 text ≡ name_fault septets (drop n text)

pub named_none : (text : List ℕ) → Named text [] 0 0
named_none text = record { count = refl; room = omega arith; few = omega arith; front = refl; same = refl }

one_more : (text : List ℕ) (n septets c : ℕ) → (n < length text) × (c ≡ get_or text n c) → name_fault septets (drop n text) ≡ cond (ltb 11 (septets + width_of (code_for c))) (Some TooLong) (cond (has_code c) (name_fault (septets + width_of (code_for c)) (drop (n + 1) text)) (Some BadName))
unfolding name_fault
one_more text n septets c h =
    at_drop_more (λ cs. name_fault septets cs) text n c h.0 ∙ ap (λ x. cond (ltb 11 (septets + width_of (code_for x))) (Some TooLong) (cond (has_code x) (name_fault (septets + width_of (code_for x)) (drop (n + 1) text)) (Some BadName))) (sym h.1)

pub named_more : (text digits : List ℕ) (n septets c : ℕ) → Named text digits n septets → (n < length text) × (c ≡ get_or text n c) → septets + width_of (code_for c) ≤ 11 → has_code c ≡ true → Named text (digits ++ c ∷ []) (n + 1) (septets + width_of (code_for c))
named_more text digits n septets c w h le ok = record {
  count = omega (arith, w.count, length_push digits c);
  room = le;
  few = omega (arith, w.few, (width_bounds (code_for c)).0);
  front = ap (λ (ds : List ℕ). ds ++ c ∷ []) w.front ∙ ap (λ (x : ℕ). take n text ++ x ∷ []) h.1 ∙ sym (take_more text n c h.0);
  same = w.same ∙ one_more text n septets c h ∙ rw (le-ltb 11 (septets + width_of (code_for c)) le, ok) refl;
}

pub too_long : (text digits : List ℕ) (n septets c : ℕ) → Named text digits n septets → (n < length text) × (c ≡ get_or text n c) → 11 < septets + width_of (code_for c) → unless (name_fault 0 text) text ≡ Err TooLong
too_long text digits n septets c w h lt =
    let f : name_fault 0 text ≡ Some TooLong = w.same ∙ one_more text n septets c h ∙ rw (lt-ltb 11 (septets + width_of (code_for c)) lt) refl in
    rw f refl

pub bad_name : (text digits : List ℕ) (n septets c : ℕ) → Named text digits n septets → (n < length text) × (c ≡ get_or text n c) → septets + width_of (code_for c) ≤ 11 → has_code c ≡ false → unless (name_fault 0 text) text ≡ Err BadName
bad_name text digits n septets c w h le bad =
    let f : name_fault 0 text ≡ Some BadName = w.same ∙ one_more text n septets c h ∙ rw (le-ltb 11 (septets + width_of (code_for c)) le, bad) refl in
    rw f refl

pub named_all : (text digits : List ℕ) (n septets : ℕ) → Named text digits n septets → n ≡ length text → unless (name_fault 0 text) text ≡ Ok digits
unfolding name_fault
named_all text digits n septets w e =
    let f : name_fault 0 text ≡ None = w.same ∙ at_drop_all (λ cs. name_fault septets cs) text n (omega arith) in
    let whole : digits ≡ text = w.front ∙ take_all n text (omega arith) in
    rw (f, whole) refl
