-- The septets that are written spell the text, and no others do.
use Rattle.std.proofs.Common.{◌≡◌, ℕ, suc, ◌+◌, ◌≤◌, Bool, true, false, not, cond, ltb, List, [], ◌∷◌, ◌++◌, length, flat_map, Option, Some, None, Result, Ok, Err, refl, sym, ap, subst, ◌∙◌, arith}
use Rattle.std.specs.List.{position_or_len}
use Rattle.std.specs.Result.{IfOk}
use Rattle.std.proofs.lemmas.Bool.{ltb-false, le-ltb}
use Rattle.sms_base.specs.declared.alphabet.Code.{Code}
use Rattle.sms_base.specs.Alphabet.{IsSpelling, septets_in, code_for}
use Rattle.sms_base.proofs.Alphabets.{pair_of_code, code_of_pair}
use Rattle.sms_alphabet.specs.Packing.{AreSeptets}
use Rattle.sms_alphabet.proofs.Pieces.{spelling_below}
use Rattle.sms_alphabet.specs.declared.spelling.SpellingError.{SpellingError}
use Rattle.sms_alphabet.specs.Spelling.{septets_for, septets_of_code, lacks_code, is_uncoded, spelled, unless_uncoded, AnswersSpelling}

-- every character has a code
abbrev AreCoded : List ℕ → Type 0
AreCoded text = length text ≤ position_or_len lacks_code text

first_coded : (character : ℕ) (text : List ℕ) (code : Option Code) → code_for character ≡ code → AreCoded (character ∷ text) → (IsPairOf : (found : Code) × (code ≡ Some found)) × AreCoded text
unfolding lacks_code
first_coded character text (Some code) e h =
    let has : is_uncoded (code_for character) ≡ false = ap is_uncoded e in
    let more : length (character ∷ text) ≤ cond (not false) (1 + position_or_len lacks_code text) 0 = subst (λ (b : Bool). length (character ∷ text) ≤ cond (not b) (1 + position_or_len lacks_code text) 0) has h in
    ((code, refl), omega arith)
first_coded character text None e h =
    let has : is_uncoded (code_for character) ≡ true = ap is_uncoded e in
    let more : length (character ∷ text) ≤ cond (not true) (1 + position_or_len lacks_code text) 0 = subst (λ (b : Bool). length (character ∷ text) ≤ cond (not b) (1 + position_or_len lacks_code text) 0) has h in
    absurd (omega arith)

septets_of : (character : ℕ) (code : Code) → code_for character ≡ Some code → septets_for character ≡ septets_in code
unfolding septets_for
septets_of character code e = ap septets_of_code e

coded_is_spelled : (text : List ℕ) → AreCoded text → IsSpelling (flat_map septets_for text) text
coded_is_spelled [] h = refl
coded_is_spelled (character ∷ text) h =
    let f = first_coded character text (code_for character) refl h in
    let code = f.0.0 in
    (code, flat_map septets_for text, pair_of_code character code f.0.1, ap (λ (s : List ℕ). s ++ flat_map septets_for text) (septets_of character code f.0.1), coded_is_spelled text f.1)

one_more : (character : ℕ) (text : List ℕ) (code : Code) → code_for character ≡ Some code → AreCoded text → AreCoded (character ∷ text)
unfolding lacks_code
one_more character text code e h =
    let has : is_uncoded (code_for character) ≡ false = ap is_uncoded e in
    subst (λ (b : Bool). length (character ∷ text) ≤ cond (not b) (1 + position_or_len lacks_code text) 0) (sym has) (let more : suc (length text) ≤ 1 + position_or_len lacks_code text = omega arith in more)

spelled_is_coded : (septets text : List ℕ) → IsSpelling septets text → AreCoded text × (septets ≡ flat_map septets_for text)
spelled_is_coded septets [] s = (omega arith, s)
spelled_is_coded septets (character ∷ text) s =
    let e = code_of_pair s.0 character s.2 in
    let later = spelled_is_coded s.1 text s.4 in
    (one_more character text s.0 e later.0, s.3 ∙ ap (λ (r : List ℕ). septets_in s.0 ++ r) later.1 ∙ ap (λ (r : List ℕ). r ++ flat_map septets_for text) (sym (septets_of character s.0 e)))

none_before : (text : List ℕ) (septets wanted : List ℕ) (b : Bool) → ltb (position_or_len lacks_code text) (length text) ≡ b → unless_uncoded (cond b (Some (position_or_len lacks_code text)) None) septets ≡ Ok wanted → AreCoded text × (septets ≡ wanted)
none_before text septets wanted true t e = absurd cc
none_before text septets wanted false t e = (ltb-false _ _ t, cc)

-- what is answered spells the text
pub spelled_spells : (text septets : List ℕ) → spelled text ≡ Ok septets → IsSpelling septets text
unfolding spelled
spelled_spells text septets e =
    let n = none_before text (flat_map septets_for text) septets (ltb (position_or_len lacks_code text) (length text)) refl e in
    subst (λ (s : List ℕ). IsSpelling s text) n.1 (coded_is_spelled text n.0)

-- what spells the text is answered
pub spelling_spelled : (text septets : List ℕ) → IsSpelling septets text → spelled text ≡ Ok septets
unfolding spelled
spelling_spelled text septets s =
    let h = spelled_is_coded septets text s in
    let none : ltb (position_or_len lacks_code text) (length text) ≡ false = le-ltb _ _ h.0 in
    rw (none, ← h.1) refl

pub found : (text : List ℕ) (result : Result (List ℕ) SpellingError) → AnswersSpelling result (spelled text) → IfOk result (λ septets. IsSpelling septets text)
found text (Ok septets) a = spelled_spells text septets a
found text (Err e) a = tt

pub only : (text septets : List ℕ) (result : Result (List ℕ) SpellingError) → AnswersSpelling result (spelled text) → IsSpelling septets text → AnswersSpelling result (Ok septets)
only text septets result a s = subst (λ (w : Result (List ℕ) SpellingError). AnswersSpelling result w) (spelling_spelled text septets s) a

pub below : (text : List ℕ) (result : Result (List ℕ) SpellingError) → AnswersSpelling result (spelled text) → IfOk result (λ septets. AreSeptets septets)
below text (Ok septets) a = spelling_below septets text (spelled_spells text septets a)
below text (Err e) a = tt
