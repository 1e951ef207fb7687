-- Names that are read: each character has a code, and the text takes no more septets than it was read from.
use Rattle.std.proofs.Common.{◌≡◌, ℕ, zero, suc, ◌<◌, ◌≤◌, Bool, true, false, ◌&&◌, eqb, List, [], ◌∷◌, ◌++◌, length, Option, Some, None, refl, sym, ap, subst, ◌∙◌, arith}
use Rattle.std.specs.Prelude.{is_some}
use Rattle.std.specs.List.{AllByRecursion}
use Rattle.std.proofs.lemmas.Bool.{eqb-true, eqb-false, and_parts}
use Rattle.std.proofs.lemmas.List.{length-append}
use Rattle.sms_base.specs.Address.{width_of, septet_count, has_code}
use Rattle.sms_base.specs.Alphabet.{IsPair, IsSpelling, code_for, text_in, main_character, escaped_character, extended_character_of, main_septet_of, extended_septet_of}
use Rattle.sms_base.specs.declared.alphabet.Code.{Code}
use Rattle.sms_base.specs.declared.alphabet.Code.TheVariants.{Main, Extended}
use Rattle.sms_base.specs.declared.alphabet.TheConstants.{ESCAPE}
use Rattle.sms_base.proofs.Alphabets.{code_of_pair, pair_of_code, spelling_reads}
use Rattle.sms_base.proofs.NameWalk.{width_bounds}
use Rattle.sms_alphabet.specs.Packing.{AreSeptets}
use Rattle.sms_tpdu.specs.AddressGrammar.{code_septets, name_septets}

-- each number below another passes
all_under : (ℕ → Bool) → ℕ → Bool
all_under test zero = true
all_under test (suc n) = test n && all_under test n

under_at : (test : ℕ → Bool) (n k : ℕ) → all_under test n ≡ true → k < n → test k ≡ true
unfolding all_under
under_at test zero k e lt = absurd (omega arith)
under_at test (suc n) k e lt = pick (λ less. under_at test n k (and_parts (test n) (all_under test n) e).1 less) (eqb k n) refl where
  pick : (k < n → test k ≡ true) → (b : Bool) → eqb k n ≡ b → test k ≡ true
  pick below true t = ap test (eqb-true k n t) ∙ (and_parts (test n) (all_under test n) e).0
  pick below false t =
      let ne : k ≡ n → ⊥ = eqb-false k n t in
      below (omega (arith, ne))

escaped_test : ℕ → Bool
escaped_test septet = has_code (escaped_character septet)

escaped_passes : all_under escaped_test 128 ≡ true
unfolding all_under escaped_test escaped_character extended_character_of main_character code_for main_septet_of extended_septet_of
escaped_passes = refl

escaped_code : (s : ℕ) → s < 128 → has_code (escaped_character s) ≡ true
unfolding escaped_test
escaped_code s lt = under_at escaped_test 128 s escaped_passes lt

some_code : (o : Option Code) (code : Code) → o ≡ Some code → is_some o ≡ true
some_code o code e = rw e refl

main_code : (s : ℕ) → s < 128 → (s ≡ ESCAPE → ⊥) → (has_code (main_character s) ≡ true) × (width_of (code_for (main_character s)) ≡ 1)
unfolding main_character
main_code s lt plain =
    let pair : IsPair (Main s) (main_character s) = (lt, plain, refl) in
    let code : code_for (main_character s) ≡ Some (Main s) = code_of_pair (Main s) (main_character s) pair in
    (some_code _ (Main s) code, ap width_of code)

space_code : (has_code 32 ≡ true) × (width_of (code_for 32) ≡ 1)
unfolding code_for main_septet_of extended_septet_of
space_code = (refl, refl)

abbrev IsText : ℕ → List ℕ → Type 0
IsText room text = (septet_count text ≤ room) × AllByRecursion (λ c. has_code c ≡ true) text

abbrev Reads : List ℕ → Type 0
Reads septets = IsText (length septets) (text_in septets)

tail_small : (x : ℕ) (xs : List ℕ) → AreSeptets (x ∷ xs) → (x < 128) × AreSeptets xs
tail_small x xs h = (h 0 0 (omega arith), λ k d lt. h (suc k) d (omega arith))

one_character : (s : ℕ) (b : Bool) → s < 128 → eqb s ESCAPE ≡ b → Reads (s ∷ [])
one_character s true lt e =
    let t : text_in (s ∷ []) ≡ 32 ∷ [] = rw e refl in
    let h : IsText 1 (32 ∷ []) = (omega (arith, space_code.1), (space_code.0, tt)) in
    subst (λ (l : List ℕ). IsText 1 l) (sym t) h
one_character s false lt e =
    let t : text_in (s ∷ []) ≡ main_character s ∷ [] = rw e refl in
    let m = main_code s lt (eqb-false s ESCAPE e) in
    let h : IsText 1 (main_character s ∷ []) = (omega (arith, m.1), (m.0, tt)) in
    subst (λ (l : List ℕ). IsText 1 l) (sym t) h

more_characters : (s n : ℕ) (rest : List ℕ) (b : Bool) → s < 128 → n < 128 → eqb s ESCAPE ≡ b → Reads rest → Reads (n ∷ rest) → Reads (s ∷ n ∷ rest)
more_characters s n rest true ls ln e short long =
    let t : text_in (s ∷ n ∷ rest) ≡ escaped_character n ∷ text_in rest = rw e refl in
    let w = width_bounds (code_for (escaped_character n)) in
    let h : IsText (length (s ∷ n ∷ rest)) (escaped_character n ∷ text_in rest) = (omega (arith, w.1, short.0), (escaped_code n ln, short.1)) in
    subst (λ (l : List ℕ). IsText (length (s ∷ n ∷ rest)) l) (sym t) h
more_characters s n rest false ls ln e short long =
    let t : text_in (s ∷ n ∷ rest) ≡ main_character s ∷ text_in (n ∷ rest) = rw e refl in
    let m = main_code s ls (eqb-false s ESCAPE e) in
    let h : IsText (length (s ∷ n ∷ rest)) (main_character s ∷ text_in (n ∷ rest)) = (omega (arith, m.1, long.0), (m.0, long.1)) in
    subst (λ (l : List ℕ). IsText (length (s ∷ n ∷ rest)) l) (sym t) h

-- both a list and its tail, so that the recursion goes down by one
two_reads : (s : ℕ) (rest : List ℕ) → AreSeptets (s ∷ rest) → Reads (s ∷ rest) × Reads rest
two_reads s [] h = (one_character s (eqb s ESCAPE) (tail_small s [] h).0 refl, (omega arith, tt))
two_reads s (n ∷ rest) h =
    let t = tail_small s (n ∷ rest) h in
    let u = tail_small n rest t.1 in
    let r = two_reads n rest t.1 in
    (more_characters s n rest (eqb s ESCAPE) t.0 u.0 refl r.1 r.0, r.0)

pub read_name : (septets : List ℕ) → AreSeptets septets → Reads septets
read_name [] h = (omega arith, tt)
read_name (s ∷ rest) h = (two_reads s rest h).0

some_text : (s n : ℕ) (rest : List ℕ) (b : Bool) → eqb s ESCAPE ≡ b → 0 < length (text_in (s ∷ n ∷ rest))
some_text s n rest true e = let t : text_in (s ∷ n ∷ rest) ≡ escaped_character n ∷ text_in rest = rw e refl in omega (arith, ap length t)
some_text s n rest false e = let t : text_in (s ∷ n ∷ rest) ≡ main_character s ∷ text_in (n ∷ rest) = rw e refl in omega (arith, ap length t)

pub read_some : (septets : List ℕ) → 0 < length septets → 0 < length (text_in septets)
read_some [] lt = absurd (omega arith)
read_some (s ∷ []) lt = omega arith
read_some (s ∷ n ∷ rest) lt = some_text s n rest (eqb s ESCAPE) refl

-- ---- names that are written

some_found : (o : Option Code) → is_some o ≡ true → (code : Code) × (o ≡ Some code)
some_found (Some code) e = (code, refl)
some_found None e = absurd cc

pub few_septets : (text : List ℕ) → length (name_septets text) ≤ septet_count text
few_septets [] = omega arith
few_septets (c ∷ cs) = omega (arith, one_width (code_for c), few_septets cs, length-append (code_septets (code_for c)) (name_septets cs)) where
  one_width : (o : Option Code) → length (code_septets o) ≤ width_of o
  one_width None = omega arith
  one_width (Some (Main s)) = omega arith
  one_width (Some (Extended s)) = omega arith

pub name_spells : (text : List ℕ) → AllByRecursion (λ c. has_code c ≡ true) text → IsSpelling (name_septets text) text
name_spells [] h = refl
name_spells (c ∷ cs) h =
    let f = some_found (code_for c) h.0 in
    (f.0, name_septets cs, pair_of_code c f.0 f.1, ap (λ (o : Option Code). code_septets o ++ name_septets cs) f.1, name_spells cs h.1)

pub name_reads : (text : List ℕ) → AllByRecursion (λ c. has_code c ≡ true) text → text_in (name_septets text) ≡ text
name_reads text h = spelling_reads (name_septets text) text (name_spells text h)
