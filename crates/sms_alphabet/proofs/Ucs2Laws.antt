-- What is written in UCS2 is read as the same text, and what is read was written so.
use Rattle.std.specs.Result.{IfOk}
use Rattle.std.proofs.Common.{◌≡◌, ℕ, ◌+◌, ◌-◌, ◌/◌, ◌%◌, ◌<◌, ◌≤◌, Bool, true, false, cond, ltb, List, [], ◌∷◌, ◌++◌, Result, Ok, Err, refl, sym, ap, subst, ◌∙◌, arith}
use Rattle.std.specs.Str.{all_scalars}
use Rattle.std.specs.Char.Utf16.{is_high_surrogate, is_low_surrogate, surrogate_pair_char}
use Rattle.std.proofs.lemmas.Bool.{ltb-true, ltb-false, lt-ltb, le-ltb, and_parts}
use Rattle.std.proofs.lemmas.Bool.Decides.{nat_tests}
use Rattle.sms_base.specs.Reading.{AreOctets}
use Rattle.sms_alphabet.specs.declared.ucs2.Ucs2Error.{Ucs2Error}
use Rattle.sms_alphabet.specs.declared.ucs2.Ucs2Error.TheVariants.{OddLength, LoneSurrogate}
use Rattle.sms_alphabet.specs.Ucs2Reading.{unit_in, partner_in, character_at, character_in}
use Rattle.sms_alphabet.proofs.Ucs2Steps.{step, ucs2_step}
use Rattle.sms_alphabet.specs.Ucs2.{octets_for, ucs2_for, behind, unit_of, ucs2_in, AnswersUcs2}
use lib.Utf8.{scalar, scalars}

-- ---- tests and ranges

high_range : (u : ℕ) → is_high_surrogate u ≡ true → (55296 ≤ u) × (u < 56320)
high_range u e = (grind (arith, nat_tests), grind (arith, nat_tests))

low_range : (u : ℕ) → is_low_surrogate u ≡ true → (56320 ≤ u) × (u < 57344)
low_range u e = (grind (arith, nat_tests), grind (arith, nat_tests))

is_high : (u : ℕ) → 55296 ≤ u → u < 56320 → is_high_surrogate u ≡ true
is_high u a b = grind (arith, nat_tests)

is_low : (u : ℕ) → 56320 ≤ u → u < 57344 → is_low_surrogate u ≡ true
is_low u a b = grind (arith, nat_tests)

not_low : (u : ℕ) → u < 56320 → is_low_surrogate u ≡ false
not_low u a = grind (arith, nat_tests)

neither_high : (c : ℕ) → scalar c ≡ true → is_high_surrogate c ≡ false
neither_high c s = grind (arith, nat_tests)

neither_low : (c : ℕ) → scalar c ≡ true → is_low_surrogate c ≡ false
neither_low c s = grind (arith, nat_tests)

in_range : (c : ℕ) → scalar c ≡ true → c < 1114112
in_range c s = grind (arith, nat_tests)

-- ---- a character that was written is read

-- by what its units are
octets_in_one : (c : ℕ) → c < 65536 → octets_for c ≡ c / 256 ∷ c % 256 ∷ []
unfolding octets_for
octets_in_one c lt = rw (lt-ltb c 65536 lt) refl

high_of : ℕ → ℕ
high_of c = 0xD800 + (c - 65536) / 1024

low_of : ℕ → ℕ
low_of c = 0xDC00 + (c - 65536) % 1024

octets_in_two : (c : ℕ) → 65536 ≤ c → octets_for c ≡ high_of c / 256 ∷ high_of c % 256 ∷ low_of c / 256 ∷ low_of c % 256 ∷ []
unfolding octets_for high_of low_of
octets_in_two c le = rw (le-ltb c 65536 le) refl

unit_back : (unit : ℕ) → unit_of (unit / 256) (unit % 256) ≡ unit
unit_back unit = omega arith

read_one : (c : ℕ) (rest : List ℕ) → c < 65536 → scalar c ≡ true → character_in (c / 256 ∷ c % 256 ∷ rest) ≡ Ok (c, rest)
unfolding character_in unit_in character_at
read_one c rest lt s = rw (unit_back c, neither_low c s, neither_high c s) refl

high_bounds : (c : ℕ) → 65536 ≤ c → c < 1114112 → (55296 ≤ high_of c) × (high_of c < 56320)
unfolding high_of
high_bounds c le lt = (omega arith, omega arith)

low_bounds : (c : ℕ) → (56320 ≤ low_of c) × (low_of c < 57344)
unfolding low_of
low_bounds c = (omega arith, omega arith)

pair_back : (c : ℕ) → 65536 ≤ c → surrogate_pair_char (high_of c) (low_of c) ≡ c
unfolding high_of low_of
pair_back c le = omega arith

read_two : (c : ℕ) (rest : List ℕ) → 65536 ≤ c → scalar c ≡ true → character_in (high_of c / 256 ∷ high_of c % 256 ∷ low_of c / 256 ∷ low_of c % 256 ∷ rest) ≡ Ok (c, rest)
unfolding character_in unit_in character_at partner_in
read_two c rest le s =
    let h = high_bounds c le (in_range c s) in
    let l = low_bounds c in
    rw (unit_back (high_of c), unit_back (low_of c), not_low (high_of c) h.1, is_high (high_of c) h.0 h.1, is_low (low_of c) l.0 l.1, pair_back c le) refl

read_character : (c : ℕ) (rest : List ℕ) (b : Bool) → ltb c 65536 ≡ b → scalar c ≡ true → ucs2_in (octets_for c ++ rest) ≡ behind c (ucs2_in rest)
read_character c rest true t s =
    let lt = ltb-true c 65536 t in
    ap (λ (o : List ℕ). ucs2_in (o ++ rest)) (octets_in_one c lt) ∙ ucs2_step (c / 256) (c % 256 ∷ rest) ∙ ap step (read_one c rest lt s)
read_character c rest false t s =
    let le = ltb-false c 65536 t in
    ap (λ (o : List ℕ). ucs2_in (o ++ rest)) (octets_in_two c le) ∙ ucs2_step (high_of c / 256) (high_of c % 256 ∷ low_of c / 256 ∷ low_of c % 256 ∷ rest) ∙ ap step (read_two c rest le s)

-- a text in UCS2 is read as itself
pub ucs2_is_read : (text : List ℕ) → all_scalars text ≡ true → ucs2_in (ucs2_for text) ≡ Ok text
unfolding ucs2_in
ucs2_is_read [] s = refl
ucs2_is_read (c ∷ text) s =
    let b = and_parts (scalar c) (scalars text) s in
    read_character c (ucs2_for text) (ltb c 65536) refl b.0 ∙ ap (behind c) (ucs2_is_read text b.1)

-- ---- a text that was read was written so

abbrev WrittenSo : List ℕ → List ℕ → Type 0
WrittenSo octets text = (octets ≡ ucs2_for text) × (all_scalars text ≡ true)

behind_ok : (character : ℕ) (wanted : Result (List ℕ) Ucs2Error) (text : List ℕ) → behind character wanted ≡ Ok text → (later : List ℕ) × (wanted ≡ Ok later) × (text ≡ character ∷ later)
behind_ok character (Ok later) text e = (later, refl, cc)
behind_ok character (Err fault) text e = absurd cc

unit_scalar : (u : ℕ) → u < 65536 → is_low_surrogate u ≡ false → is_high_surrogate u ≡ false → scalar u ≡ true
unit_scalar u lt l h = grind (arith, nat_tests)

-- a unit that stands for itself
one_written : (a b : ℕ) (rest later : List ℕ) → a < 256 → b < 256 → is_low_surrogate (unit_of a b) ≡ false → is_high_surrogate (unit_of a b) ≡ false → WrittenSo rest later → WrittenSo (a ∷ b ∷ rest) (unit_of a b ∷ later)
one_written a b rest later small_a small_b l h w =
    let below : unit_of a b < 65536 = omega arith in
    let upper : unit_of a b / 256 ≡ a = omega arith in
    let lower : unit_of a b % 256 ≡ b = omega arith in
    let octets : octets_for (unit_of a b) ≡ a ∷ b ∷ [] = octets_in_one (unit_of a b) below ∙ ap (λ (n : ℕ). n ∷ unit_of a b % 256 ∷ []) upper ∙ ap (λ (n : ℕ). a ∷ n ∷ []) lower in
    (ap (λ (o : List ℕ). a ∷ b ∷ o) w.0 ∙ ap (λ (o : List ℕ). o ++ ucs2_for later) (sym octets), rw (unit_scalar (unit_of a b) below l h) w.1)

pair_scalar : (c : ℕ) → 65536 ≤ c → c < 1114112 → scalar c ≡ true
pair_scalar c le lt = grind (arith, nat_tests)

-- a pair of units
two_written : (a b c d : ℕ) (rest later : List ℕ) → a < 256 → b < 256 → c < 256 → d < 256 → is_high_surrogate (unit_of a b) ≡ true → is_low_surrogate (unit_of c d) ≡ true → WrittenSo rest later → WrittenSo (a ∷ b ∷ c ∷ d ∷ rest) (surrogate_pair_char (unit_of a b) (unit_of c d) ∷ later)
unfolding high_of low_of
two_written a b c d rest later sa sb sc sd h l w =
    let high = high_range (unit_of a b) h in
    let low = low_range (unit_of c d) l in
    let pair = surrogate_pair_char (unit_of a b) (unit_of c d) in
    let above : 65536 ≤ pair = omega arith in
    let below : pair < 1114112 = omega arith in
    let first : high_of pair ≡ unit_of a b = omega arith in
    let second : low_of pair ≡ unit_of c d = omega arith in
    let a_is : unit_of a b / 256 ≡ a = omega arith in
    let b_is : unit_of a b % 256 ≡ b = omega arith in
    let c_is : unit_of c d / 256 ≡ c = omega arith in
    let d_is : unit_of c d % 256 ≡ d = omega arith in
    let octets : octets_for pair ≡ a ∷ b ∷ c ∷ d ∷ [] =
    octets_in_two pair above
    ∙ ap (λ (u : ℕ). u / 256 ∷ u % 256 ∷ low_of pair / 256 ∷ low_of pair % 256 ∷ []) first
    ∙ ap (λ (u : ℕ). unit_of a b / 256 ∷ unit_of a b % 256 ∷ u / 256 ∷ u % 256 ∷ []) second
    ∙ ap (λ (n : ℕ). n ∷ unit_of a b % 256 ∷ unit_of c d / 256 ∷ unit_of c d % 256 ∷ []) a_is
    ∙ ap (λ (n : ℕ). a ∷ n ∷ unit_of c d / 256 ∷ unit_of c d % 256 ∷ []) b_is
    ∙ ap (λ (n : ℕ). a ∷ b ∷ n ∷ unit_of c d % 256 ∷ []) c_is
    ∙ ap (λ (n : ℕ). a ∷ b ∷ c ∷ n ∷ []) d_is in
    (ap (λ (o : List ℕ). a ∷ b ∷ c ∷ d ∷ o) w.0 ∙ ap (λ (o : List ℕ). o ++ ucs2_for later) (sym octets), rw (pair_scalar pair above below) w.1)

abbrev Later : List ℕ → Type 0
Later octets = (text : List ℕ) → AreOctets octets → ucs2_in octets ≡ Ok text → WrittenSo octets text

last_unit : (a b : ℕ) (text : List ℕ) (low high : Bool) → is_low_surrogate (unit_of a b) ≡ low → is_high_surrogate (unit_of a b) ≡ high → a < 256 → b < 256 →
    cond low (Err LoneSurrogate) (cond high (Err LoneSurrogate) (Ok (unit_of a b ∷ []))) ≡ Ok text → WrittenSo (a ∷ b ∷ []) text
last_unit a b text true high l h sa sb e = absurd cc
last_unit a b text false true l h sa sb e = absurd cc
last_unit a b text false false l h sa sb e =
    let same : unit_of a b ∷ [] ≡ text = cc in
    subst (λ (t : List ℕ). WrittenSo (a ∷ b ∷ []) t) same (one_written a b [] [] sa sb l h (refl, refl))

two_units : (a b c d : ℕ) (rest text : List ℕ) (low high paired : Bool) → is_low_surrogate (unit_of a b) ≡ low → is_high_surrogate (unit_of a b) ≡ high → is_low_surrogate (unit_of c d) ≡ paired → AreOctets (a ∷ b ∷ c ∷ d ∷ rest) → Later rest → Later (c ∷ d ∷ rest) →
    cond low (Err LoneSurrogate) (cond high (cond paired (behind (surrogate_pair_char (unit_of a b) (unit_of c d)) (ucs2_in rest)) (Err LoneSurrogate)) (behind (unit_of a b) (ucs2_in (c ∷ d ∷ rest)))) ≡ Ok text → WrittenSo (a ∷ b ∷ c ∷ d ∷ rest) text
two_units a b c d rest text true high paired l h p o far near e = absurd cc
two_units a b c d rest text false true false l h p o far near e = absurd cc
two_units a b c d rest text false true true l h p o far near e =
    let k = behind_ok (surrogate_pair_char (unit_of a b) (unit_of c d)) (ucs2_in rest) text e in
    subst (λ (t : List ℕ). WrittenSo (a ∷ b ∷ c ∷ d ∷ rest) t) (sym k.2) (two_written a b c d rest k.0 o.0 o.1.0 o.1.1.0 o.1.1.1.0 h p (far k.0 o.1.1.1.1 k.1))
two_units a b c d rest text false false paired l h p o far near e =
    let k = behind_ok (unit_of a b) (ucs2_in (c ∷ d ∷ rest)) text e in
    subst (λ (t : List ℕ). WrittenSo (a ∷ b ∷ c ∷ d ∷ rest) t) (sym k.2) (one_written a b (c ∷ d ∷ rest) k.0 o.0 o.1.0 l h (near k.0 o.1.1 k.1))

odd_unit : (low : Bool) (text : List ℕ) → cond low (Err LoneSurrogate) (Err OddLength) ≡ Ok text → ⊥
odd_unit true text e = cc
odd_unit false text e = cc

-- what is read as a text is that text in UCS2
pub read_is_ucs2 : (octets text : List ℕ) → AreOctets octets → ucs2_in octets ≡ Ok text → WrittenSo octets text
unfolding ucs2_in
read_is_ucs2 [] text o e = let same : [] ≡ text = cc in subst (λ (t : List ℕ). WrittenSo [] t) same (refl, refl)
read_is_ucs2 (a ∷ []) text o e = absurd cc
read_is_ucs2 (a ∷ b ∷ []) text o e = last_unit a b text _ _ refl refl o.0 o.1.0 e
read_is_ucs2 (a ∷ b ∷ c ∷ []) text o e = absurd (odd_unit (is_low_surrogate (unit_of a b)) text e)
read_is_ucs2 (a ∷ b ∷ c ∷ d ∷ rest) text o e =
    two_units a b c d rest text _ _ _ refl refl refl o (λ later ok is. read_is_ucs2 rest later ok is) (λ later ok is. read_is_ucs2 (c ∷ d ∷ rest) later ok is) e

pub found : {X : Type 0} (view : X → List ℕ) (octets : List ℕ) (result : Result X Ucs2Error) → AreOctets octets → AnswersUcs2 view result (ucs2_in octets) → IfOk result (λ text. octets ≡ ucs2_for (view text))
found view octets (Ok text) o a = (read_is_ucs2 octets (view text) o a).0
found view octets (Err e) o a = tt

pub only : {X : Type 0} (view : X → List ℕ) (octets text : List ℕ) (result : Result X Ucs2Error) → AnswersUcs2 view result (ucs2_in octets) → all_scalars text ≡ true → octets ≡ ucs2_for text → AnswersUcs2 view result (Ok text)
only {X} view octets text result a s e = subst (λ (w : Result (List ℕ) Ucs2Error). AnswersUcs2 view result w) (ap ucs2_in e ∙ ucs2_is_read text s) a
