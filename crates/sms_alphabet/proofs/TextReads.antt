-- Reading septets from left to right: the text so far, and whether an ESC is held back.
use Rattle.std.proofs.Common.{max, ltb, inl, inr, ◌≡◌, ◌≢◌, ℕ, ◌+◌, ◌<◌, Bool, true, false, ◌&&◌, List, [], ◌∷◌, ◌++◌, length, get_or, drop, refl, sym, ap, ◌∙◌, append_assoc, append-nil, drop-cons, add-one, arith}
use Rattle.std.specs.List.{AllByRecursion, list_all}
use Rattle.std.specs.Prelude.{nat_lt}
use Rattle.std.specs.Str.{chars, encode_utf8_all}
use Rattle.std.specs.Char.{encode_utf8}
use Rattle.std.proofs.lemmas.Bool.{ne_eqb, ltb-true, lt-ltb, le-ltb, cases_lt, and_parts}
use Rattle.std.proofs.lemmas.Str.{chars-encodes}
use Rattle.sms_base.specs.Alphabet.{text_in, main_character, escaped_character}
use Rattle.sms_base.proofs.Alphabets.{text_scalars}
use Rattle.sms_base.proofs.Bools.{and_assoc, and_true}

-- what is still to be read
abbrev pub pending : Bool → List ℕ → List ℕ
pending true rest = 27 ∷ rest
pending false rest = rest

-- what is read, and what is still to be read, are the whole text
pub record Reads (septets bytes : List ℕ) (escaped : Bool) (rest : List ℕ) : Type 0 where
  pub whole : bytes ++ encode_utf8_all (text_in (pending escaped rest)) ≡ encode_utf8_all (text_in septets)

pub reads_start : (septets : List ℕ) → Reads septets [] false septets
reads_start septets = record { whole = refl }

main_first : (septet : ℕ) (rest : List ℕ) → septet ≢ 27 → text_in (septet ∷ rest) ≡ main_character septet ∷ text_in rest
main_first septet [] ne = rw (ne_eqb septet 27 ne) refl
main_first septet (next ∷ rest) ne = rw (ne_eqb septet 27 ne) refl

pub reads_main : (septets bytes rest : List ℕ) (septet : ℕ) (later : List ℕ) → septet ≢ 27 → rest ≡ septet ∷ later → Reads septets bytes false rest → Reads septets (bytes ++ encode_utf8 (main_character septet)) false later
reads_main septets bytes rest septet later ne e r =
    let first : encode_utf8_all (text_in rest) ≡ encode_utf8 (main_character septet) ++ encode_utf8_all (text_in later) = ap (λ (s : List ℕ). encode_utf8_all (text_in s)) e ∙ ap encode_utf8_all (main_first septet later ne) in
    record { whole = append_assoc bytes (encode_utf8 (main_character septet)) (encode_utf8_all (text_in later)) ∙ ap (λ (s : List ℕ). bytes ++ s) (sym first) ∙ r.whole }

pub reads_escape : (septets bytes rest : List ℕ) (septet : ℕ) (later : List ℕ) → septet ≡ 27 → rest ≡ septet ∷ later → Reads septets bytes false rest → Reads septets bytes true later
reads_escape septets bytes rest septet later is e r =
    let same : rest ≡ 27 ∷ later = e ∙ ap (λ (n : ℕ). n ∷ later) is in
    record { whole = ap (λ (s : List ℕ). bytes ++ encode_utf8_all (text_in s)) (sym same) ∙ r.whole }

pub reads_escaped : (septets bytes rest : List ℕ) (septet : ℕ) (later : List ℕ) → rest ≡ septet ∷ later → Reads septets bytes true rest → Reads septets (bytes ++ encode_utf8 (escaped_character septet)) false later
reads_escaped septets bytes rest septet later e r =
    let first : encode_utf8_all (text_in (27 ∷ rest)) ≡ encode_utf8 (escaped_character septet) ++ encode_utf8_all (text_in later) = ap (λ (s : List ℕ). encode_utf8_all (text_in (27 ∷ s))) e in
    record { whole = append_assoc bytes (encode_utf8 (escaped_character septet)) (encode_utf8_all (text_in later)) ∙ ap (λ (s : List ℕ). bytes ++ s) (sym first) ∙ r.whole }

pub reads_end : (septets bytes rest : List ℕ) → rest ≡ [] → Reads septets bytes false rest → bytes ≡ encode_utf8_all (text_in septets)
reads_end septets bytes rest e r = sym (append-nil bytes) ∙ ap (λ (s : List ℕ). bytes ++ encode_utf8_all (text_in s)) (sym e) ∙ r.whole

pub reads_end_escaped : (septets bytes rest : List ℕ) → rest ≡ [] → Reads septets bytes true rest → bytes ++ encode_utf8 32 ≡ encode_utf8_all (text_in septets)
reads_end_escaped septets bytes rest e r = ap (λ (s : List ℕ). bytes ++ s) (sym (append-nil (encode_utf8 32))) ∙ ap (λ (s : List ℕ). bytes ++ encode_utf8_all (text_in (27 ∷ s))) (sym e) ∙ r.whole

-- the next septet of a slice
pub next_septet : (septets : List ℕ) (place : ℕ) → place < length septets → drop place septets ≡ get_or septets place 0 ∷ drop (place + 1) septets
next_septet septets place lt = rw (add-one, drop-cons septets place 0) refl

each_septet : (septets : List ℕ) → list_all (λ septet. nat_lt septet 128) septets ≡ true → AllByRecursion (λ septet. septet < 128) septets
each_septet [] h = tt
each_septet (septet ∷ septets) h =
    let b = and_parts (nat_lt septet 128) (list_all (λ s. nat_lt s 128) septets) h in
    (ltb-true septet 128 b.0, each_septet septets b.1)

pub text_characters : (septets : List ℕ) → list_all (λ septet. nat_lt septet 128) septets ≡ true → chars (encode_utf8_all (text_in septets)) ≡ text_in septets
text_characters septets h = chars-encodes (text_in septets) (text_scalars septets (each_septet septets h))

-- ---- the greatest of numbers is below 128 where each is

max_below : (m x : ℕ) → ltb (max m x) 128 ≡ ltb m 128 && ltb x 128
max_below m x = elim (cases_lt m 128) [
  | inl a ↦ elim (cases_lt x 128) [
    | inl b ↦ lt-ltb (max m x) 128 (omega (arith, a, b)) ∙ sym (rw (lt-ltb m 128 a, lt-ltb x 128 b) refl)
    | inr b ↦ le-ltb (max m x) 128 (omega (arith, b)) ∙ sym (rw (lt-ltb m 128 a, le-ltb x 128 b) refl)
  ]
  | inr a ↦ le-ltb (max m x) 128 (omega (arith, a)) ∙ sym (rw (le-ltb m 128 a) refl)
]

abbrev AllBelow : List ℕ → Bool
AllBelow xs = list_all (λ septet. nat_lt septet 128) xs

pub most_turn : (xs rest later : List ℕ) (m x : ℕ) → rest ≡ x ∷ later → nat_lt m 128 && AllBelow rest ≡ AllBelow xs → nat_lt (max m x) 128 && AllBelow later ≡ AllBelow xs
most_turn xs rest later m x e h =
    ap (λ (b : Bool). b && AllBelow later) (max_below m x) ∙ and_assoc (ltb m 128) (ltb x 128) (AllBelow later) ∙ ap (λ (r : List ℕ). ltb m 128 && AllBelow r) (sym e) ∙ h

pub most_end : (xs rest : List ℕ) (m : ℕ) → length rest ≡ 0 → nat_lt m 128 && AllBelow rest ≡ AllBelow xs → nat_lt m 128 ≡ AllBelow xs
most_end xs [] m e h = sym (and_true (ltb m 128)) ∙ h
most_end xs (x ∷ rest) m e h = absurd (omega arith)
