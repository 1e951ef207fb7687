-- The alphabet: one code a character, and the code is read as it. The tables are computed through once.
use Rattle.std.proofs.Common.{◌≡◌, ◌≢◌, ℕ, zero, suc, ◌+◌, ◌<◌, Bool, true, false, ◌&&◌, ◌||◌, eqb, ltb, cond, List, [], ◌∷◌, ◌++◌, length, get_or, Option, Some, None, refl, sym, ap, subst, ◌∙◌, arith}
use Rattle.std.specs.Prelude.{◌==◌, find, option_map, Contains}
use Rattle.std.specs.List.{list_all}
use Rattle.std.specs.Option.{IfSome}
use Rattle.std.specs.List.{AllByRecursion}
use lib.Utf8.{scalar, scalars}
use Rattle.std.proofs.lemmas.List.Quantifiers.{position-Some}
use Rattle.std.proofs.lemmas.Bool.{ltb-true, eqb-true, eqb-false, ne_eqb, and_parts, and_from}
use Rattle.std.proofs.lemmas.Option.{same_Some}
use Rattle.sms_base.specs.declared.alphabet.Code.{Code}
use Rattle.sms_base.specs.declared.alphabet.Code.TheVariants.{Main, Extended}
use Rattle.sms_base.specs.declared.alphabet.TheConstants.{ESCAPE, MAIN_TABLE, EXTENSION_TABLE}
use Rattle.sms_base.specs.Alphabet.{IsPair, septets_in, main_septet_of, extended_septet_of, first_code, code_for, main_character, extended_character_of, escaped_character, text_in, IsSpelling}

-- each element, with its place counted from a number, passes
unfoldable pub each_from : (ℕ → ℕ → Bool) → ℕ → List ℕ → Bool
each_from test i [] = true
each_from test i (x ∷ xs) = test i x && each_from test (suc i) xs

pub each_at : (test : ℕ → ℕ → Bool) (i : ℕ) (xs : List ℕ) (k : ℕ) → each_from test i xs ≡ true → k < length xs → test (i + k) (get_or xs k 0) ≡ true
unfolding each_from
each_at test i [] k e lt = absurd (omega arith)
each_at test i (x ∷ xs) zero e lt = let same : i + 0 ≡ i = omega arith in ap (λ (n : ℕ). test n x) same ∙ (and_parts (test i x) (each_from test (suc i) xs) e).0
each_at test i (x ∷ xs) (suc k) e lt =
    let same : i + suc k ≡ suc i + k = omega arith in
    ap (λ (n : ℕ). test n (get_or xs k 0)) same ∙ each_at test (suc i) xs k (and_parts (test i x) (each_from test (suc i) xs) e).1 (omega arith)

all_at : {X : Type 0} (test : X → Bool) (xs : List X) (k : ℕ) (x : X) → list_all test xs ≡ true → k < length xs → test (get_or xs k x) ≡ true
all_at test [] k x e lt = absurd (omega arith)
all_at test (y ∷ xs) zero x e lt = (and_parts (test y) (list_all test xs) e).0
all_at test (y ∷ xs) (suc k) x e lt = all_at test xs k x (and_parts (test y) (list_all test xs) e).1 (omega arith)

unfoldable pub same_code : Option Code → Code → Bool
same_code None code = false
same_code (Some (Main a)) (Main b) = eqb a b
same_code (Some (Main a)) (Extended b) = false
same_code (Some (Extended a)) (Main b) = false
same_code (Some (Extended a)) (Extended b) = eqb a b

pub is_code : (found : Option Code) (code : Code) → same_code found code ≡ true → found ≡ Some code
unfolding same_code
is_code None code e = absurd cc
is_code (Some (Main a)) (Main b) e = ap (λ (n : ℕ). Some (Main n)) (eqb-true a b e)
is_code (Some (Main a)) (Extended b) e = absurd cc
is_code (Some (Extended a)) (Main b) e = absurd cc
is_code (Some (Extended a)) (Extended b) e = ap (λ (n : ℕ). Some (Extended n)) (eqb-true a b e)

same_character : Option ℕ → ℕ → Bool
same_character None character = false
same_character (Some found) character = eqb found character

is_character : (found : Option ℕ) (character : ℕ) → same_character found character ≡ true → found ≡ Some character
unfolding same_character
is_character None character e = absurd cc
is_character (Some found) character e = ap (λ (n : ℕ). Some n) (eqb-true found character e)

-- the character of each septet but ESC is written as that septet
main_test : ℕ → ℕ → Bool
main_test septet character = eqb septet 27 || same_code (code_for character) (Main septet)

abbrev Pair : Type 0
Pair = ℕ × ℕ

extended_test : Pair → Bool
extended_test pair = same_code (code_for pair.1) (Extended pair.0)

main_passes : each_from main_test 0 MAIN_TABLE ≡ true
unfolding each_from main_test same_code code_for main_septet_of extended_septet_of
main_passes = refl

extended_passes : list_all extended_test EXTENSION_TABLE ≡ true
unfolding extended_test same_code code_for main_septet_of extended_septet_of
extended_passes = refl

or_right : (a b : Bool) → a ≡ false → a || b ≡ true → b ≡ true
or_right true b p e = absurd cc
or_right false b p e = e

-- what is of the alphabet is written so
pub code_of_pair : (code : Code) (character : ℕ) → IsPair code character → code_for character ≡ Some code
unfolding main_test extended_test
code_of_pair (Main septet) character p =
    let passed : main_test (0 + septet) (get_or MAIN_TABLE septet 0) ≡ true = each_at main_test 0 MAIN_TABLE septet main_passes p.0 in
    let zeroed : 0 + septet ≡ septet = omega arith in
    let here : main_test septet (get_or MAIN_TABLE septet 0) ≡ true = ap (λ (n : ℕ). main_test n (get_or MAIN_TABLE septet 0)) (sym zeroed) ∙ passed in
    let coded : same_code (code_for (get_or MAIN_TABLE septet 0)) (Main septet) ≡ true = or_right _ _ (ne_eqb septet 27 p.1) here in
    ap code_for p.2 ∙ is_code (code_for (get_or MAIN_TABLE septet 0)) (Main septet) coded
code_of_pair (Extended septet) character p =
    let pair : Pair = (septet, character) in
    let passed : extended_test (get_or EXTENSION_TABLE p.0 pair) ≡ true = all_at extended_test EXTENSION_TABLE p.0 pair extended_passes p.1 in
    let here : extended_test pair ≡ true = ap extended_test (sym p.2) ∙ passed in
    is_code (code_for character) (Extended septet) here

-- a character has one code
pub one_code : (a b : Code) (character : ℕ) → IsPair a character → IsPair b character → a ≡ b
one_code a b character p q = same_Some a b (sym (code_of_pair a character p) ∙ code_of_pair b character q)

-- what is written so is of the alphabet

abbrev Found : (Pair → Bool) → List Pair → Pair → Type 0
Found test xs pair = Contains xs pair × (test pair ≡ true)

found_first : (test : Pair → Bool) (x : Pair) (xs : List Pair) (pair : Pair) (b : Bool) → test x ≡ b → (find test xs ≡ Some pair → Found test xs pair) → cond b (Some x) (find test xs) ≡ Some pair → Found test (x ∷ xs) pair
found_first test x xs pair true t later e =
    let same : x ≡ pair = cc in
    ((0, omega arith, same), ap test (sym same) ∙ t)
found_first test x xs pair false t later e =
    let f = later e in
    ((suc f.0.0, omega (arith, f.0.1), f.0.2), f.1)

found_at : (test : Pair → Bool) (xs : List Pair) (pair : Pair) → find test xs ≡ Some pair → Found test xs pair
found_at test [] pair e = absurd cc
found_at test (x ∷ xs) pair e = found_first test x xs pair (test x) refl (found_at test xs pair) e

extended_at : (found : Option Pair) (septet : ℕ) → option_map (λ (pair : Pair). pair.0) found ≡ Some septet → (pair : Pair) × (found ≡ Some pair) × (pair.0 ≡ septet)
extended_at None septet e = absurd cc
extended_at (Some pair) septet e = (pair, refl, cc)

from_extended : (character septet : ℕ) → extended_septet_of character ≡ Some septet → IsPair (Extended septet) character
unfolding extended_septet_of
from_extended character septet e =
    let a = extended_at (find (λ (pair : Pair). pair.1 == character) EXTENSION_TABLE) septet e in
    let f = found_at (λ (pair : Pair). pair.1 == character) EXTENSION_TABLE a.0 a.1 in
    let right : a.0.1 ≡ character = eqb-true _ _ f.1 in
    let same : a.0 ≡ (septet, character) = ap (λ (n : ℕ). let p : Pair = (n, a.0.1) in p) a.2 ∙ ap (λ (n : ℕ). let p : Pair = (septet, n) in p) right in
    subst (λ (p : Pair). Contains EXTENSION_TABLE p) same f.0

from_main : (character septet : ℕ) → character ≢ 27 → main_septet_of character ≡ Some septet → IsPair (Main septet) character
unfolding main_septet_of
from_main character septet other e =
    let a = position-Some (λ (n : ℕ). n == character) MAIN_TABLE septet 0 e in
    let here : get_or MAIN_TABLE septet 0 ≡ character = eqb-true _ _ a.1 in
    let escape : get_or MAIN_TABLE 27 0 ≡ 27 = refl in
    (a.0, λ (same : septet ≡ ESCAPE). other (sym here ∙ ap (λ (n : ℕ). get_or MAIN_TABLE n 0) same ∙ escape), sym here)

by_tables : (character : ℕ) (main extended : Option ℕ) (code : Code) → character ≢ 27 → main_septet_of character ≡ main → extended_septet_of character ≡ extended → first_code main extended ≡ Some code → IsPair code character
by_tables character (Some septet) extended code other m x e =
    let same : Main septet ≡ code = cc in
    subst (λ (c : Code). IsPair c character) same (from_main character septet other m)
by_tables character None (Some septet) code other m x e =
    let same : Extended septet ≡ code = cc in
    subst (λ (c : Code). IsPair c character) same (from_extended character septet x)
by_tables character None None code other m x e = absurd cc

by_test : (character : ℕ) (b : Bool) (code : Code) → eqb character 27 ≡ b → cond b None (first_code (main_septet_of character) (extended_septet_of character)) ≡ Some code → IsPair code character
by_test character true code t e = absurd cc
by_test character false code t e = by_tables character (main_septet_of character) (extended_septet_of character) code (eqb-false character 27 t) refl refl e

pub pair_of_code : (character : ℕ) (code : Code) → code_for character ≡ Some code → IsPair code character
unfolding code_for
pair_of_code character code e = by_test character (eqb character 27) code refl e

pub found_is_pair : (character : ℕ) (found : Option Code) → found ≡ code_for character → IfSome found (λ code. IsPair code character)
found_is_pair character None e = tt
found_is_pair character (Some code) e = pair_of_code character code (sym e)

-- ---- reading

-- what is written for a character is read as it
reads_test : Pair → Bool
reads_test pair = eqb (escaped_character pair.0) pair.1

reads_passes : list_all reads_test EXTENSION_TABLE ≡ true
unfolding reads_test escaped_character extended_character_of main_character
reads_passes = refl

-- what stands before a rest is read as the character, and the rest by itself
pub code_reads : (code : Code) (character : ℕ) (rest : List ℕ) → IsPair code character → text_in (septets_in code ++ rest) ≡ character ∷ text_in rest
unfolding reads_test main_character
code_reads (Main septet) character [] p = rw (ne_eqb septet 27 p.1) (ap (λ (n : ℕ). n ∷ []) (sym p.2))
code_reads (Main septet) character (next ∷ rest) p = rw (ne_eqb septet 27 p.1) (ap (λ (n : ℕ). n ∷ text_in (next ∷ rest)) (sym p.2))
code_reads (Extended septet) character rest p =
    let pair : Pair = (septet, character) in
    let passed : reads_test (get_or EXTENSION_TABLE p.0 pair) ≡ true = all_at reads_test EXTENSION_TABLE p.0 pair reads_passes p.1 in
    let here : reads_test pair ≡ true = ap reads_test (sym p.2) ∙ passed in
    ap (λ (n : ℕ). n ∷ text_in rest) (eqb-true _ _ here)

-- what spells a text is read as it
pub spelling_reads : (septets text : List ℕ) → IsSpelling septets text → text_in septets ≡ text
spelling_reads septets [] s = ap text_in s
spelling_reads septets (character ∷ text) s =
    ap text_in s.3 ∙ code_reads s.0 character s.1 s.2 ∙ ap (λ (t : List ℕ). character ∷ t) (spelling_reads s.1 text s.4)

-- a text has one spelling
pub one_spelling : (a b text : List ℕ) → IsSpelling a text → IsSpelling b text → a ≡ b
one_spelling a b [] s t = s ∙ sym t
one_spelling a b (character ∷ text) s t =
    let code = one_code s.0 t.0 character s.2 t.2 in
    s.3 ∙ ap (λ (c : Code). septets_in c ++ s.1) code ∙ ap (λ (r : List ℕ). septets_in t.0 ++ r) (one_spelling s.1 t.1 text s.4 t.4) ∙ sym t.3

-- ---- the extension table by its septets

lookup_test : Pair → Bool
lookup_test pair = same_character (extended_character_of pair.0) pair.1

lookup_passes : list_all lookup_test EXTENSION_TABLE ≡ true
unfolding lookup_test same_character extended_character_of
lookup_passes = refl

septet_test : Pair → Bool
septet_test pair = ltb pair.0 128

septet_passes : list_all septet_test EXTENSION_TABLE ≡ true
unfolding septet_test
septet_passes = refl

pub pair_is_extended : (septet character : ℕ) → IsPair (Extended septet) character → extended_character_of septet ≡ Some character
unfolding lookup_test
pair_is_extended septet character p =
    let pair : Pair = (septet, character) in
    let passed : lookup_test (get_or EXTENSION_TABLE p.0 pair) ≡ true = all_at lookup_test EXTENSION_TABLE p.0 pair lookup_passes p.1 in
    let here : lookup_test pair ≡ true = ap lookup_test (sym p.2) ∙ passed in
    is_character (extended_character_of septet) character here

pub pair_is_septet : (septet character : ℕ) → IsPair (Extended septet) character → septet < 128
unfolding septet_test
pair_is_septet septet character p =
    let pair : Pair = (septet, character) in
    let passed : septet_test (get_or EXTENSION_TABLE p.0 pair) ≡ true = all_at septet_test EXTENSION_TABLE p.0 pair septet_passes p.1 in
    let here : septet_test pair ≡ true = ap septet_test (sym p.2) ∙ passed in
    ltb-true septet 128 here

character_at : (found : Option Pair) (character : ℕ) → option_map (λ (pair : Pair). pair.1) found ≡ Some character → (pair : Pair) × (found ≡ Some pair) × (pair.1 ≡ character)
character_at None character e = absurd cc
character_at (Some pair) character e = (pair, refl, cc)

pub extended_is_pair : (septet character : ℕ) → extended_character_of septet ≡ Some character → IsPair (Extended septet) character
unfolding extended_character_of
extended_is_pair septet character e =
    let a = character_at (find (λ (pair : Pair). pair.0 == septet) EXTENSION_TABLE) character e in
    let f = found_at (λ (pair : Pair). pair.0 == septet) EXTENSION_TABLE a.0 a.1 in
    let left : a.0.0 ≡ septet = eqb-true _ _ f.1 in
    let same : a.0 ≡ (septet, character) = ap (λ (n : ℕ). let p : Pair = (a.0.0, n) in p) a.2 ∙ ap (λ (n : ℕ). let p : Pair = (n, character) in p) left in
    subst (λ (p : Pair). Contains EXTENSION_TABLE p) same f.0

-- ---- what is read is a text

scalar_test : ℕ → ℕ → Bool
scalar_test septet character = scalar (main_character septet) && scalar (escaped_character septet)

scalar_passes : each_from scalar_test 0 MAIN_TABLE ≡ true
unfolding each_from scalar_test main_character escaped_character extended_character_of
scalar_passes = refl

abbrev AreScalar : ℕ → Type 0
AreScalar septet = (scalar (main_character septet) ≡ true) × (scalar (escaped_character septet) ≡ true)

are_scalar : (septet : ℕ) → septet < 128 → AreScalar septet
unfolding scalar_test
are_scalar septet lt =
    let passed : scalar_test (0 + septet) (get_or MAIN_TABLE septet 0) ≡ true = each_at scalar_test 0 MAIN_TABLE septet scalar_passes lt in
    let zeroed : 0 + septet ≡ septet = omega arith in
    and_parts (scalar (main_character septet)) (scalar (escaped_character septet)) (ap (λ (n : ℕ). scalar_test n (get_or MAIN_TABLE septet 0)) (sym zeroed) ∙ passed)

cond_scalar : (b : Bool) (x y : ℕ) → scalar x ≡ true → scalar y ≡ true → scalar (cond b x y) ≡ true
cond_scalar true x y p q = p
cond_scalar false x y p q = q

cond_scalars : (b : Bool) (xs ys : List ℕ) → scalars xs ≡ true → scalars ys ≡ true → scalars (cond b xs ys) ≡ true
cond_scalars true xs ys p q = p
cond_scalars false xs ys p q = q

pub text_scalars : (septets : List ℕ) → AllByRecursion (λ septet. septet < 128) septets → scalars (text_in septets) ≡ true
text_scalars [] h = refl
text_scalars (septet ∷ []) h = and_from _ _ (cond_scalar (eqb septet 27) 32 (main_character septet) refl (are_scalar septet h.0).0) refl
text_scalars (septet ∷ next ∷ rest) h =
    cond_scalars (eqb septet 27) (escaped_character next ∷ text_in rest) (main_character septet ∷ text_in (next ∷ rest))
    (and_from _ _ (are_scalar next h.1.0).1 (text_scalars rest h.1.1))
    (and_from _ _ (are_scalar septet h.0).0 (text_scalars (next ∷ rest) h.1))
