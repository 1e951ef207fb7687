-- Septets are read as one text: that of the pieces into which they cut.
use Rattle.std.proofs.Common.{length, get_or, ◌≡◌, ◌≢◌, ℕ, zero, suc, ◌<◌, inl, inr, Bool, true, false, cond, eqb, ltb, List, [], ◌∷◌, ◌++◌, Option, Some, None, Result, Ok, Err, refl, sym, ap, subst, ◌∙◌, arith}
use Rattle.std.specs.List.{list_all}
use Rattle.std.specs.Prelude.{nat_lt}
use Rattle.std.specs.Result.{IfOk}
use Rattle.std.proofs.lemmas.Bool.{eqb-true, eqb-false, ne_eqb, lt-ltb, ltb-true, and_parts}
use Rattle.sms_base.specs.declared.alphabet.Code.{Code}
use Rattle.sms_base.specs.declared.alphabet.Code.TheVariants.{Main, Extended}
use Rattle.sms_base.specs.Alphabet.{IsPair, IsSpelling, septets_in, text_in, main_character, extended_character_of, escaped_character}
use Rattle.sms_base.proofs.Alphabets.{code_reads, pair_is_extended, pair_is_septet, extended_is_pair}
use Rattle.sms_alphabet.specs.Packing.{AreSeptets}
use Rattle.sms_alphabet.specs.declared.reading.ReadingError.{ReadingError}
use Rattle.sms_alphabet.specs.declared.reading.ReadingError.TheVariants.{NotSeptet}
use Rattle.sms_alphabet.specs.TextReading.{IsPiece, IsReading, text_read, AnswersText}

abbrev are_septets : List ℕ → Bool
are_septets septets = list_all (λ septet. nat_lt septet 128) septets

-- ---- the pieces are read as the characters

abbrev Read : List ℕ → List ℕ → ℕ → Type 0
Read piece rest character = (text_in (piece ++ rest) ≡ character ∷ text_in rest) × (are_septets (piece ++ rest) ≡ are_septets rest)

none_found : (found : Option ℕ) → ((other : ℕ) → found ≡ Some other → ⊥) → found ≡ None
none_found None h = refl
none_found (Some other) h = absurd (h other refl)

coded : (code : Code) (rest : List ℕ) (character : ℕ) → IsPair code character → Read (septets_in code) rest character
coded (Main septet) rest character p = (code_reads (Main septet) character rest p, rw (lt-ltb septet 128 p.0) refl)
coded (Extended septet) rest character p = (code_reads (Extended septet) character rest p, rw (lt-ltb septet 128 (pair_is_septet septet character p)) refl)

unknown : (septet : ℕ) (rest : List ℕ) (character : ℕ) → IsPair (Main septet) character → ((other : ℕ) → IsPair (Extended septet) other → ⊥) → Read (27 ∷ septet ∷ []) rest character
unfolding escaped_character main_character
unknown septet rest character p lacks =
    let none = none_found (extended_character_of septet) (λ other e. lacks other (extended_is_pair septet other e)) in
    let plain : escaped_character septet ≡ character = rw (ne_eqb septet 27 p.1, none) (sym p.2) in
    (ap (λ (n : ℕ). n ∷ text_in rest) plain, rw (lt-ltb septet 128 p.0) refl)

double : (rest : List ℕ) → Read (27 ∷ 27 ∷ []) rest 32
unfolding escaped_character
double rest = (refl, refl)

last : Read (27 ∷ []) [] 32
last = (refl, refl)

piece_read : (piece rest : List ℕ) (character : ℕ) → IsPiece piece rest character → Read piece rest character
piece_read piece rest character (inl h) = subst (λ (p : List ℕ). Read p rest character) (sym h.2) (coded h.0 rest character h.1)
piece_read piece rest character (inr (inl h)) = subst (λ (p : List ℕ). Read p rest character) (sym h.3) (unknown h.0 rest character h.1 h.2)
piece_read piece rest character (inr (inr (inl h))) = subst (λ (p : List ℕ). Read p rest character) (sym h.0) (subst (λ (c : ℕ). Read (27 ∷ 27 ∷ []) rest c) (sym h.1) (double rest))
piece_read piece rest character (inr (inr (inr h))) = subst (λ (p : List ℕ). Read p rest character) (sym h.0) (subst (λ (c : ℕ). Read (27 ∷ []) rest c) (sym h.2) (subst (λ (r : List ℕ). Read (27 ∷ []) r 32) (sym h.1) last))

reading_text : (septets text : List ℕ) → IsReading septets text → (text_in septets ≡ text) × (are_septets septets ≡ true)
reading_text septets [] h = (ap text_in h, ap are_septets h)
reading_text septets (character ∷ text) h =
    let r = piece_read h.0 h.1 character h.2 in
    let later = reading_text h.1 text h.4 in
    (ap text_in h.3 ∙ r.0 ∙ ap (λ (t : List ℕ). character ∷ t) later.0, ap are_septets h.3 ∙ r.1 ∙ later.1)

pub reading_again : (septets text : List ℕ) → IsReading septets text → text_read septets ≡ Ok text
unfolding text_read
reading_again septets text h = let r = reading_text septets text h in rw (r.1, r.0) refl

-- what spells a text reads as it
pub spelling_is_reading : (septets text : List ℕ) → IsSpelling septets text → IsReading septets text
spelling_is_reading septets [] h = h
spelling_is_reading septets (character ∷ text) h = (septets_in h.0, h.1, inl (h.0, h.2, refl), h.3, spelling_is_reading h.1 text h.4)

-- ---- septets cut into pieces

plain_piece : (septet : ℕ) (rest : List ℕ) → septet < 128 → septet ≢ 27 → IsPiece (septet ∷ []) rest (main_character septet)
unfolding main_character
plain_piece septet rest lt ne = inl (Main septet, (lt, ne, refl), refl)

escaped_piece : (septet : ℕ) (rest : List ℕ) (escape : Bool) (found : Option ℕ) → septet < 128 → eqb septet 27 ≡ escape → extended_character_of septet ≡ found → IsPiece (27 ∷ septet ∷ []) rest (escaped_character septet)
unfolding escaped_character main_character
escaped_piece septet rest true found lt t f = inr (inr (inl (ap (λ (n : ℕ). 27 ∷ n ∷ []) (eqb-true septet 27 t), rw t refl)))
escaped_piece septet rest false (Some character) lt t f = rw (t, f) (inl (Extended septet, extended_is_pair septet character f, refl))
escaped_piece septet rest false None lt t f =
    rw (t, f) (inr (inl (septet, (lt, eqb-false septet 27 t, refl), (λ other p. let g = pair_is_extended septet other p in cc), refl)))

one_left : (septet : ℕ) (escape : Bool) → septet < 128 → eqb septet 27 ≡ escape → IsReading (septet ∷ []) (cond escape 32 (main_character septet) ∷ [])
one_left septet true lt t = (septet ∷ [], [], inr (inr (inr (ap (λ (n : ℕ). n ∷ []) (eqb-true septet 27 t), refl, refl))), refl, refl)
one_left septet false lt t = (septet ∷ [], [], plain_piece septet [] lt (eqb-false septet 27 t), refl, refl)

two_left : (septet next : ℕ) (rest : List ℕ) (escape : Bool) → septet < 128 → next < 128 → eqb septet 27 ≡ escape → IsReading rest (text_in rest) → IsReading (next ∷ rest) (text_in (next ∷ rest)) →
    IsReading (septet ∷ next ∷ rest) (cond escape (escaped_character next ∷ text_in rest) (main_character septet ∷ text_in (next ∷ rest)))
two_left septet next rest true lt lt' t far near =
    (27 ∷ next ∷ [], rest, escaped_piece next rest (eqb next 27) (extended_character_of next) lt' refl refl, ap (λ (n : ℕ). n ∷ next ∷ rest) (eqb-true septet 27 t), far)
two_left septet next rest false lt lt' t far near =
    (septet ∷ [], next ∷ rest, plain_piece septet (next ∷ rest) lt (eqb-false septet 27 t), refl, near)

cuts : (septets : List ℕ) → are_septets septets ≡ true → IsReading septets (text_in septets)
cuts [] h = refl
cuts (septet ∷ []) h = one_left septet (eqb septet 27) (ltb-true septet 128 (and_parts (ltb septet 128) true h).0) refl
cuts (septet ∷ next ∷ rest) h =
    let b = and_parts (ltb septet 128) (are_septets (next ∷ rest)) h in
    let d = and_parts (ltb next 128) (are_septets rest) b.1 in
    two_left septet next rest (eqb septet 27) (ltb-true septet 128 b.0) (ltb-true next 128 d.0) refl (cuts rest d.1) (cuts (next ∷ rest) b.1)

read_cuts : (septets text : List ℕ) (b : Bool) → are_septets septets ≡ b → cond b (Ok (text_in septets)) (Err NotSeptet) ≡ Ok text → IsReading septets text
read_cuts septets text true t e = let same : text_in septets ≡ text = cc in subst (λ (s : List ℕ). IsReading septets s) same (cuts septets t)
read_cuts septets text false t e = absurd cc

pub reading_takes : (septets text : List ℕ) → text_read septets ≡ Ok text → IsReading septets text
unfolding text_read
reading_takes septets text e = read_cuts septets text (are_septets septets) refl e

pub found : {X : Type 0} (view : X → List ℕ) (septets : List ℕ) (result : Result X ReadingError) → AnswersText view result (text_read septets) → IfOk result (λ text. IsReading septets (view text))
found view septets (Ok text) a = reading_takes septets (view text) a
found view septets (Err e) a = tt

pub only : {X : Type 0} (view : X → List ℕ) (septets text : List ℕ) (result : Result X ReadingError) → AnswersText view result (text_read septets) → IsReading septets text → AnswersText view result (Ok text)
only {X} view septets text result a r = subst (λ (w : Result (List ℕ) ReadingError). AnswersText view result w) (reading_again septets text r) a

pub below : (septet : ℕ) (septets : List ℕ) → septet < 128 → AreSeptets septets → (k d : ℕ) → k < length (septet ∷ septets) → get_or (septet ∷ septets) k d < 128
below septet septets first later zero d lt = first
below septet septets first later (suc k) d lt = later k d (omega arith)

each_below : (septets : List ℕ) → are_septets septets ≡ true → AreSeptets septets
each_below [] h = λ k d lt. absurd (omega arith)
each_below (septet ∷ septets) h =
    let b = and_parts (ltb septet 128) (are_septets septets) h in
    λ k d lt. below septet septets (ltb-true septet 128 b.0) (each_below septets b.1) k d lt

-- what spells a text are septets
pub spelling_below : (septets text : List ℕ) → IsSpelling septets text → AreSeptets septets
spelling_below septets text s = each_below septets (reading_text septets text (spelling_is_reading septets text s)).1
