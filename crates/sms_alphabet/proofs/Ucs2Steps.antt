-- UCS2, character by character.
use Rattle.std.proofs.Common.{◌≡◌, ◌↔◌, ℕ, ◌<◌, ◌≤◌, Bool, true, false, cond, List, [], ◌∷◌, ◌++◌, length, Result, Ok, Err, refl, sym, ap, ◌∙◌, arith, append_assoc, append-nil}
use Rattle.std.specs.Str.{chars, encode_utf8_all, IsUtf8}
use Rattle.std.specs.Char.{encode_utf8}
use Rattle.std.specs.Char.Utf16.{is_high_surrogate, is_low_surrogate, surrogate_pair_char}
use Rattle.std.proofs.lemmas.Str.{encodes-append, chars_from_encodes}
use Rattle.sms_base.specs.Reading.{◌>>=◌, only_if}
use Rattle.sms_base.proofs.Steps.{bind_ok, ok_is}
use Rattle.sms_alphabet.specs.declared.ucs2.Ucs2Error.{Ucs2Error}
use Rattle.sms_alphabet.specs.declared.ucs2.Ucs2Error.TheVariants.{OddLength, LoneSurrogate, NoMemory}
use Rattle.sms_alphabet.specs.Ucs2.{behind, unit_of, ucs2_in, Tested, AnswersUcs2}
use Rattle.sms_alphabet.specs.Ucs2Reading.{unit_in, partner_in, character_at, character_in}

-- the text of octets after a character was tried: the character and what follows, or the fault
abbrev pub step : Result (ℕ × List ℕ) Ucs2Error → Result (List ℕ) Ucs2Error
step (Ok read) = behind read.0 (ucs2_in read.1)
step (Err fault) = Err fault

-- the last unit
lone_step : (unit : ℕ) (low high : Bool) → is_low_surrogate unit ≡ low → is_high_surrogate unit ≡ high →
    cond low (Err LoneSurrogate) (cond high (Err LoneSurrogate) (Ok (unit ∷ []))) ≡ step (character_at unit [])
unfolding character_at partner_in ucs2_in
lone_step unit true high l h = rw l refl
lone_step unit false true l h = rw (l, h) refl
lone_step unit false false l h = rw (l, h) refl

-- a unit and a lone octet
odd_step : (unit octet : ℕ) (low high : Bool) → is_low_surrogate unit ≡ low → is_high_surrogate unit ≡ high →
    cond low (Err LoneSurrogate) (Err OddLength) ≡ step (character_at unit (octet ∷ []))
unfolding character_at partner_in unit_in ucs2_in
odd_step unit octet true high l h = rw l refl
odd_step unit octet false true l h = rw (l, h) refl
odd_step unit octet false false l h = rw (l, h) refl

abbrev after_pair : ℕ → ℕ → List ℕ → Bool → Result (List ℕ) Ucs2Error
after_pair unit next rest paired = cond paired (behind (surrogate_pair_char unit next) (ucs2_in rest)) (Err LoneSurrogate)

-- two units
pair_step : (unit c d : ℕ) (rest : List ℕ) (low high paired : Bool) → is_low_surrogate unit ≡ low → is_high_surrogate unit ≡ high → is_low_surrogate (unit_of c d) ≡ paired →
    cond low (Err LoneSurrogate) (cond high (after_pair unit (unit_of c d) rest paired) (behind unit (ucs2_in (c ∷ d ∷ rest)))) ≡ step (character_at unit (c ∷ d ∷ rest))
unfolding character_at partner_in unit_in
pair_step unit c d rest true high paired l h p = rw l refl
pair_step unit c d rest false true true l h p = rw (l, h, p) refl
pair_step unit c d rest false true false l h p = rw (l, h, p) refl
pair_step unit c d rest false false paired l h p = rw (l, h) refl

pub ucs2_step : (octet : ℕ) (rest : List ℕ) → ucs2_in (octet ∷ rest) ≡ step (character_in (octet ∷ rest))
unfolding ucs2_in character_in unit_in
ucs2_step a [] = refl
ucs2_step a (b ∷ []) = lone_step (unit_of a b) _ _ refl refl
ucs2_step a (b ∷ c ∷ []) = odd_step (unit_of a b) c _ _ refl refl
ucs2_step a (b ∷ c ∷ d ∷ rest) = pair_step (unit_of a b) c d rest _ _ _ refl refl refl

-- ---- a walk over the octets

-- a text behind its front
abbrev pub after : List ℕ → Result (List ℕ) Ucs2Error → Result (List ℕ) Ucs2Error
after front (Ok text) = Ok (front ++ text)
after front (Err fault) = Err fault

pub record Decodes (octets rest front : List ℕ) : Type 0 where
  pub whole : ucs2_in octets ≡ after front (ucs2_in rest)

after_nothing : (wanted : Result (List ℕ) Ucs2Error) → wanted ≡ after [] wanted
after_nothing (Ok text) = refl
after_nothing (Err fault) = refl

after_one : (front : List ℕ) (character : ℕ) (wanted : Result (List ℕ) Ucs2Error) → after front (behind character wanted) ≡ after (front ++ character ∷ []) wanted
after_one front character (Ok text) = ap (λ (s : List ℕ). Ok s) (sym (append_assoc front (character ∷ []) text))
after_one front character (Err fault) = refl

pub decodes_start : (octets : List ℕ) → Decodes octets octets []
decodes_start octets = record { whole = after_nothing (ucs2_in octets) }

pub decodes_turn : (octets rest front : List ℕ) (character : ℕ) (later : List ℕ) → 0 < length rest → character_in rest ≡ Ok (character, later) → Decodes octets rest front → Decodes octets later (front ++ character ∷ [])
decodes_turn octets [] front character later some e d = absurd (omega arith)
decodes_turn octets (octet ∷ rest) front character later some e d =
    record { whole = d.whole ∙ ap (after front) (ucs2_step octet rest ∙ ap step e) ∙ after_one front character (ucs2_in later) }

pub decodes_fault : (octets rest front : List ℕ) (fault : Ucs2Error) → 0 < length rest → character_in rest ≡ Err fault → Decodes octets rest front → ucs2_in octets ≡ Err fault
decodes_fault octets [] front fault some e d = absurd (omega arith)
decodes_fault octets (octet ∷ rest) front fault some e d = d.whole ∙ ap (after front) (ucs2_step octet rest ∙ ap step e)

pub decodes_end : (octets rest front : List ℕ) → length rest ≡ 0 → Decodes octets rest front → ucs2_in octets ≡ Ok front
unfolding ucs2_in
decodes_end octets [] front none d = d.whole ∙ ap (λ (s : List ℕ). Ok s) (append-nil front)
decodes_end octets (octet ∷ rest) front none d = absurd (omega arith)

-- ---- a character takes octets, and its faults are never want of memory

unit_shorter : (octets : List ℕ) (read : ℕ × List ℕ) → unit_in octets ≡ Ok read → length read.1 < length octets
unfolding unit_in
unit_shorter [] read e = absurd cc
unit_shorter (a ∷ []) read e = absurd cc
unit_shorter (a ∷ b ∷ rest) read e =
    let same : (let pair : ℕ × List ℕ = (unit_of a b, rest) in pair ≡ read) = ok_is {E = Ucs2Error} (unit_of a b, rest) read e in
    let left : rest ≡ read.1 = ap (λ (p : ℕ × List ℕ). p.1) same in
    rw (← left) (omega arith)

partner_shorter : (octets : List ℕ) (read : ℕ × List ℕ) → partner_in octets ≡ Ok read → length read.1 < length octets
unfolding partner_in
partner_shorter [] read e = absurd cc
partner_shorter (a ∷ rest) read e = unit_shorter (a ∷ rest) read e

pair_shorter : (unit : ℕ) (octets : List ℕ) (read : ℕ × List ℕ) → (partner_in octets >>= (λ p. only_if (is_low_surrogate p.0) LoneSurrogate >>= (λ u. Ok (surrogate_pair_char unit p.0, p.1)))) ≡ Ok read → length read.1 ≤ length octets
pair_shorter unit octets read e =
    let a = bind_ok (partner_in octets) _ read e in
    let b = bind_ok (only_if (is_low_surrogate a.0.0) LoneSurrogate) _ read a.2 in
    let same : (let pair : ℕ × List ℕ = (surrogate_pair_char unit a.0.0, a.0.1) in pair ≡ read) = ok_is {E = Ucs2Error} (surrogate_pair_char unit a.0.0, a.0.1) read b.2 in
    let left : a.0.1 ≡ read.1 = ap (λ (p : ℕ × List ℕ). p.1) same in
    rw (← left) (omega (arith, partner_shorter octets a.0 a.1))

at_shorter : (unit : ℕ) (octets : List ℕ) (read : ℕ × List ℕ) (low high : Bool) → is_low_surrogate unit ≡ low → is_high_surrogate unit ≡ high → character_at unit octets ≡ Ok read → length read.1 ≤ length octets
unfolding character_at
at_shorter unit octets read true high l h e = let f = rw l at e in absurd cc
at_shorter unit octets read false true l h e = pair_shorter unit octets read (rw (l, h) at e)
at_shorter unit octets read false false l h e =
    let same : (let pair : ℕ × List ℕ = (unit, octets) in pair ≡ read) = ok_is {E = Ucs2Error} (unit, octets) read (rw (l, h) at e) in
    let left : octets ≡ read.1 = ap (λ (p : ℕ × List ℕ). p.1) same in
    rw (← left) (omega arith)

pub character_shorter : (octets : List ℕ) (character : ℕ) (later : List ℕ) → character_in octets ≡ Ok (character, later) → length later < length octets
unfolding character_in
character_shorter octets character later e =
    let a = bind_ok (unit_in octets) _ (character, later) e in
    omega (arith, unit_shorter octets a.0 a.1, at_shorter a.0.0 a.0.1 (character, later) _ _ refl refl a.2)

unit_fault : (octets : List ℕ) → unit_in octets ≡ Err NoMemory → ⊥
unfolding unit_in
unit_fault [] e = cc
unit_fault (a ∷ []) e = cc
unit_fault (a ∷ b ∷ rest) e = cc

partner_fault : (octets : List ℕ) → partner_in octets ≡ Err NoMemory → ⊥
unfolding partner_in
partner_fault [] e = cc
partner_fault (a ∷ rest) e = unit_fault (a ∷ rest) e

abbrev paired : ℕ → ℕ × List ℕ → Result (ℕ × List ℕ) Ucs2Error
paired unit read = only_if (is_low_surrogate read.0) LoneSurrogate >>= (λ u. Ok (surrogate_pair_char unit read.0, read.1))

low_fault : (unit : ℕ) (read : ℕ × List ℕ) (low : Bool) → is_low_surrogate read.0 ≡ low → paired unit read ≡ Err NoMemory → ⊥
low_fault unit read true l e = let f = rw l at e in cc
low_fault unit read false l e = let f = rw l at e in cc

pair_fault : (unit : ℕ) (read : Result (ℕ × List ℕ) Ucs2Error) → (read ≡ Err NoMemory → ⊥) → (read >>= paired unit) ≡ Err NoMemory → ⊥
pair_fault unit (Err fault) other e = other e
pair_fault unit (Ok read) other e = low_fault unit read (is_low_surrogate read.0) refl e

at_fault : (unit : ℕ) (octets : List ℕ) (low high : Bool) → is_low_surrogate unit ≡ low → is_high_surrogate unit ≡ high → character_at unit octets ≡ Err NoMemory → ⊥
unfolding character_at
at_fault unit octets true high l h e = let f = rw l at e in cc
at_fault unit octets false true l h e = pair_fault unit (partner_in octets) (partner_fault octets) (rw (l, h) at e)
at_fault unit octets false false l h e = let f = rw (l, h) at e in cc

abbrev character_behind : ℕ × List ℕ → Result (ℕ × List ℕ) Ucs2Error
character_behind read = character_at read.0 read.1

first_fault : (read : Result (ℕ × List ℕ) Ucs2Error) → (read ≡ Err NoMemory → ⊥) → (read >>= character_behind) ≡ Err NoMemory → ⊥
first_fault (Err fault) other e = other e
first_fault (Ok read) other e = at_fault read.0 read.1 _ _ refl refl e

never_memory : (octets : List ℕ) → character_in octets ≡ Err NoMemory → ⊥
unfolding character_in
never_memory octets e = first_fault (unit_in octets) (unit_fault octets) e

-- what the test answers at a fault
pub tested_fault : (octets rest front : List ℕ) (fault : Ucs2Error) → 0 < length rest → character_in rest ≡ Err fault → Decodes octets rest front → Tested (Err fault) (ucs2_in octets)
tested_fault octets rest front OddLength some e d = decodes_fault octets rest front OddLength some e d
tested_fault octets rest front LoneSurrogate some e d = decodes_fault octets rest front LoneSurrogate some e d
tested_fault octets rest front NoMemory some e d = never_memory rest e

-- what reading answers at a fault
pub answered_fault : {X : Type 0} (view : X → List ℕ) (octets rest front : List ℕ) (fault : Ucs2Error) → 0 < length rest → character_in rest ≡ Err fault → Decodes octets rest front → AnswersUcs2 view (Err fault) (ucs2_in octets)
answered_fault view octets rest front OddLength some e d = decodes_fault octets rest front OddLength some e d
answered_fault view octets rest front LoneSurrogate some e d = decodes_fault octets rest front LoneSurrogate some e d
answered_fault view octets rest front NoMemory some e d = absurd (never_memory rest e)

pub some_left : (rest : List ℕ) (empty : Bool) → (empty ≡ true) ↔ (rest ≡ []) → empty ≡ false → 0 < length rest
some_left [] empty h e = let f = h.1 refl in absurd cc
some_left (octet ∷ rest) empty h e = omega arith

pub none_left : (rest : List ℕ) (empty : Bool) → (empty ≡ true) ↔ (rest ≡ []) → empty ≡ true → length rest ≡ 0
none_left rest empty h e = ap length (h.0 e)

pub utf8_text : (bytes front : List ℕ) → IsUtf8 bytes → bytes ≡ encode_utf8_all front → chars bytes ≡ front
utf8_text bytes front u e = sym (chars_from_encodes front bytes u (sym e))

pub utf8_more : (bytes front : List ℕ) (character : ℕ) → bytes ≡ encode_utf8_all front → bytes ++ encode_utf8 character ≡ encode_utf8_all (front ++ character ∷ [])
utf8_more bytes front character e = ap (λ (s : List ℕ). s ++ encode_utf8 character) e ∙ sym (encodes-append front (character ∷ []) ∙ ap (λ (s : List ℕ). encode_utf8_all front ++ s) (append-nil (encode_utf8 character)))
