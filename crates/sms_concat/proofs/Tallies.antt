-- What is left as whole units go by tells how many parts there are.
use Rattle.std.proofs.Common.{◌≡◌, ℕ, suc, ◌+◌, ◌-◌, ◌/◌, ◌%◌, ◌<◌, ◌≤◌, Bool, true, false, not, cond, ltb, leb, List, [], ◌∷◌, ◌++◌, length, flat_map, Option, Some, None, Ok, Err, refl, sym, ap, ◌∙◌, arith}
use Rattle.std.specs.List.{position_or_len}
use Rattle.std.specs.Str.{chars}
use Rattle.std.proofs.lemmas.Str.{chars-nil}
use Rattle.std.proofs.lemmas.Bool.{ltb-false, ltb-true, le-ltb, lt-ltb, le-leb, lt-leb, leb-true, leb-false, ne_eqb, and_parts}
use Rattle.std.proofs.lemmas.Bool.Decides.{nat_tests}
use Rattle.std.proofs.lemmas.List.{length-append}
use Rattle.sms_base.specs.declared.alphabet.Code.{Code}
use Rattle.sms_base.specs.declared.alphabet.Code.TheVariants.{Main, Extended}
use Rattle.sms_base.specs.Alphabet.{IsPair, code_for, septets_in}
use Rattle.sms_base.proofs.Alphabets.{pair_of_code}
use Rattle.sms_base.specs.Reading.{AreOctets}
use Rattle.sms_alphabet.specs.declared.scheme.Coding.{Coding}
use Rattle.sms_alphabet.specs.declared.scheme.Coding.TheVariants.{Septets, Octets, Ucs2, Compressed}
use Rattle.sms_alphabet.specs.Spelling.{septets_for, septets_of_code, lacks_code, is_uncoded, spelled}
use Rattle.sms_alphabet.specs.Ucs2.{octets_for, ucs2_for}
use Rattle.sms_concat.specs.declared.content.Content.{Content}
use Rattle.sms_concat.specs.declared.split_error.SplitError.TheVariants.{TooManyParts}
use Rattle.sms_concat.specs.declared.tally.Tally.{Tally}
use Rattle.sms_concat.specs.declared.tally.TextTally.{TextTally}
use Rattle.sms_concat.specs.Counting.{counted, content_with, tally_begun, with_unit, outcome, with_code, with_character, with_text, text_begun, either_fits_behind, either_outcome, text_fits_behind, text_outcome, unit_tally_fits_behind}
use Rattle.sms_concat.specs.Splitting.{room, is_compressed, joined, filled, divided, pieces_of, split_of}
use Rattle.sms_concat.specs.TextContent.{content_of_text}
use Rattle.sms_concat.specs.UserData.{capacity, data_length}
use Rattle.sms_concat.specs.WholeUnits.{whole_units, septet_units, ucs2_units, is_high_surrogate, is_low_surrogate}
use Rattle.sms_concat.proofs.Dividing.{AreSmall, small_units, room_above, joined_units}
use Rattle.sms_concat.proofs.Numbering.{split_alone, split_cut, all_numbered, too_many, length_numbered, counted_to, some_way, none_way}
use lib.Utf8.{scalar, scalars}

-- ---- the tally of whole units

abbrev pub tallied : Tally → List (List ℕ) → Tally
tallied t [] = t
tallied t (unit ∷ units) = tallied (with_unit (length unit) t) units

some_filled : (limit : ℕ) (piece : List ℕ) (units : List (List ℕ)) → 0 < length (filled limit piece units)
unfolding filled
some_filled limit piece [] = omega arith
some_filled limit piece (unit ∷ units) = more (ltb limit (length piece + length unit)) (some_filled limit (piece ++ unit) units) where
  more : (b : Bool) → 0 < length (filled limit (piece ++ unit) units) → 0 < length (cond b (piece ∷ filled limit unit units) (filled limit (piece ++ unit) units))
  more true h = omega arith
  more false h = h

-- what was left before, less what the units and their pieces take
pub record IsLeft (limit : ℕ) (piece : List ℕ) (units : List (List ℕ)) (before after : Tally) : Type 0 where
  pub alone_is : after.alone ≡ before.alone - length (joined units)
  pub parts_is : after.parts ≡ (before.parts + 1) - length (filled limit piece units)

pub record IsAt (limit : ℕ) (piece : List ℕ) (t : Tally) : Type 0 where
  pub room_is : t.room ≡ limit
  pub piece_is : t.piece ≡ limit - length piece
  pub within : length piece ≤ limit

-- a unit that begins a piece
begins : (limit : ℕ) (piece unit : List ℕ) (units : List (List ℕ)) (t : Tally) → 4 ≤ limit → length unit ≤ 4 → IsAt limit piece t → ltb limit (length piece + length unit) ≡ true
    → (IsAt limit unit (with_unit (length unit) t) → IsLeft limit unit units (with_unit (length unit) t) (tallied (with_unit (length unit) t) units)) → IsLeft limit piece (unit ∷ units) t (tallied (with_unit (length unit) t) units)
unfolding filled
begins limit piece unit units t high small at_ p later =
    let over : leb (length unit) t.piece ≡ false = lt-leb _ _ (let h : t.piece < length unit = omega (arith, at_.piece_is, at_.within, ltb-true _ _ p) in h) in
    let next = with_unit (length unit) t in
    let piece_is : next.piece ≡ limit - length unit = rw over (ap (λ (n : ℕ). n - length unit) at_.room_is) in
    let l = later (record { room_is = at_.room_is; piece_is = piece_is; within = omega (arith, small) }) in
    let parts : next.parts ≡ t.parts - 1 = rw over refl in
    let size : length (joined (unit ∷ units)) ≡ length unit + length (joined units) = length-append unit (joined units) in
    let made : length (filled limit piece (unit ∷ units)) ≡ suc (length (filled limit unit units)) = rw p refl in
    record {
      alone_is = omega (arith, l.alone_is, size);
      parts_is = omega (arith, l.parts_is, parts, made, some_filled limit unit units);
    }

-- a unit that goes into the piece
goes_on : (limit : ℕ) (piece unit : List ℕ) (units : List (List ℕ)) (t : Tally) → IsAt limit piece t → ltb limit (length piece + length unit) ≡ false
    → (IsAt limit (piece ++ unit) (with_unit (length unit) t) → IsLeft limit (piece ++ unit) units (with_unit (length unit) t) (tallied (with_unit (length unit) t) units)) → IsLeft limit piece (unit ∷ units) t (tallied (with_unit (length unit) t) units)
unfolding filled
goes_on limit piece unit units t at_ p later =
    let within = ltb-false _ _ p in
    let size_is : length (piece ++ unit) ≡ length piece + length unit = length-append piece unit in
    let fits : leb (length unit) t.piece ≡ true = le-leb _ _ (let h : length unit ≤ t.piece = omega (arith, at_.piece_is, at_.within, within) in h) in
    let next = with_unit (length unit) t in
    let taken : next.piece ≡ t.piece - length unit = rw fits refl in
    let l = later (record { room_is = at_.room_is; piece_is = omega (arith, taken, at_.piece_is, size_is); within = omega (arith, size_is, within) }) in
    let parts : next.parts ≡ t.parts = rw fits refl in
    let size : length (joined (unit ∷ units)) ≡ length unit + length (joined units) = length-append unit (joined units) in
    let made : length (filled limit piece (unit ∷ units)) ≡ length (filled limit (piece ++ unit) units) = rw p refl in
    record {
      alone_is = omega (arith, l.alone_is, size);
      parts_is = omega (arith, l.parts_is, parts, made);
    }

pub left : (limit : ℕ) (piece : List ℕ) (units : List (List ℕ)) (t : Tally) → 4 ≤ limit → AreSmall units → IsAt limit piece t → IsLeft limit piece units t (tallied t units)
unfolding filled AreSmall
left limit piece [] t high small at_ = record { alone_is = omega arith; parts_is = omega arith }
left limit piece (unit ∷ units) t high small at_ =
    either (ltb limit (length piece + length unit)) (begins limit piece unit units t high small.0 at_) (goes_on limit piece unit units t at_)
    (λ here. left limit unit units (with_unit (length unit) t) high small.1 here) (λ here. left limit (piece ++ unit) units (with_unit (length unit) t) high small.1 here) where
      either : (b : Bool) {P Q R : Type 0} → (b ≡ true → P → R) → (b ≡ false → Q → R) → P → Q → R
      either true one two p q = one refl p
      either false one two p q = two refl q

-- the first piece begins with nothing in it
from_nothing : (limit : ℕ) (units : List (List ℕ)) → 4 ≤ limit → AreSmall units → 0 < length units → filled limit [] units ≡ divided limit units
unfolding filled AreSmall
from_nothing limit [] high small some = absurd (omega arith)
from_nothing limit (unit ∷ units) high small some = rw (le-ltb limit (0 + length unit) (let h : 0 + length unit ≤ limit = omega (arith, small.0) in h)) refl

some_units : (units : List (List ℕ)) → 0 < length (joined units) → 0 < length units
some_units [] h = h
some_units (unit ∷ units) h = omega arith

-- ---- what it comes to

outcome_alone : (t : Tally) → 0 < t.alone → outcome t ≡ Ok 1
outcome_alone t h = rw (lt-ltb 0 t.alone h) refl

outcome_cut : (t : Tally) (n : ℕ) → t.alone ≡ 0 → t.parts ≡ 21 - n → n ≤ 20 → outcome t ≡ Ok n
outcome_cut t n none left few =
    let some : 0 < t.parts = omega arith in
    let back : 21 - t.parts ≡ n = omega arith in
    rw (le-ltb 0 t.alone (omega arith), lt-ltb 0 t.parts some) (ap Ok back)

outcome_over : (t : Tally) (n : ℕ) → t.alone ≡ 0 → t.parts ≡ 21 - n → 20 < n → outcome t ≡ Err TooManyParts
outcome_over t n none left many = rw (le-ltb 0 t.alone (omega arith), le-ltb 0 t.parts (omega arith)) refl

pub outcome_counts : (coding : Coding) (dcs : ℕ) (xs : List ℕ) (reference : ℕ) → is_compressed coding ≡ false
    → outcome (tallied (tally_begun coding) (whole_units coding xs)) ≡ counted (split_of (content_with coding dcs xs) reference)
outcome_counts coding dcs xs reference plain = more (leb (length xs) (capacity coding)) refl where
  units : List (List ℕ)
  units = whole_units coding xs

  end : Tally
  end = tallied (tally_begun coding) units

  begun : IsAt (room coding) [] (tally_begun coding)
  begun = record { room_is = refl; piece_is = omega arith; within = omega arith }

  l : IsLeft (room coding) [] units (tally_begun coding) end
  l = left (room coding) [] units (tally_begun coding) (room_above coding) (small_units coding xs) begun

  size : length (joined units) ≡ length xs
  size = ap length (joined_units coding xs)

  last : (b : Bool) → ltb 20 (length (pieces_of coding xs)) ≡ b → capacity coding < length xs → end.alone ≡ 0 → end.parts ≡ 21 - length (pieces_of coding xs) → outcome end ≡ counted (split_of (content_with coding dcs xs) reference)
  last true p over none left =
      outcome_over end (length (pieces_of coding xs)) none left (ltb-true _ _ p) ∙ sym (ap counted (split_cut (content_with coding dcs xs) reference over plain ∙ too_many (content_with coding dcs xs) reference (pieces_of coding xs) (ltb-true _ _ p)))
  last false p over none left =
      let few = ltb-false _ _ p in
      outcome_cut end (length (pieces_of coding xs)) none left few
      ∙ ap Ok (sym (length_numbered (content_with coding dcs xs) reference (length (pieces_of coding xs)) 1 (pieces_of coding xs)))
      ∙ sym (ap counted (split_cut (content_with coding dcs xs) reference over plain ∙ all_numbered (content_with coding dcs xs) reference (pieces_of coding xs) few))

  more : (b : Bool) → leb (length xs) (capacity coding) ≡ b → outcome end ≡ counted (split_of (content_with coding dcs xs) reference)
  more true p =
      let fits : length xs ≤ capacity coding = leb-true _ _ p in
      outcome_alone end (omega (arith, l.alone_is, size)) ∙ sym (ap counted (split_alone (content_with coding dcs xs) reference fits))
  more false p =
      let over : capacity coding < length xs = leb-false _ _ p in
      let pieces = pieces_of coding xs in
      let same : length (filled (room coding) [] units) ≡ length pieces = ap length (from_nothing (room coding) units (room_above coding) (small_units coding xs) (some_units units (omega (arith, size)))) in
      let none : end.alone ≡ 0 = omega (arith, l.alone_is, size) in
      let left : end.parts ≡ 21 - length pieces = omega (arith, l.parts_is, same) in
      last (ltb 20 (length pieces)) refl over none left

-- the pieces that are counted one by one
same_count : (pieces : List (List ℕ)) (total : ℕ) → Some total ≡ counted_to pieces → total ≡ length pieces
same_count pieces total e = more (ltb 20 (length pieces)) e where
  more : (b : Bool) → Some total ≡ cond b None (Some (length pieces)) → total ≡ length pieces
  more true h = absurd cc
  more false h = cc

pub pieces_counted : (coding : Coding) (xs : List ℕ) (total dcs reference : ℕ) → capacity coding < length xs → is_compressed coding ≡ false → Some total ≡ counted_to (pieces_of coding xs)
    → Ok total ≡ counted (split_of (content_with coding dcs xs) reference)
pieces_counted coding xs total dcs reference over plain e =
    let content = content_with coding dcs xs in
    ap Ok (same_count (pieces_of coding xs) total e ∙ sym (length_numbered content reference total 1 (pieces_of coding xs))) ∙ sym (ap counted (some_way content reference total over plain e))

pub pieces_too_many : (coding : Coding) (xs : List ℕ) (dcs reference : ℕ) → capacity coding < length xs → is_compressed coding ≡ false → None ≡ counted_to (pieces_of coding xs)
    → Err TooManyParts ≡ counted (split_of (content_with coding dcs xs) reference)
pieces_too_many coding xs dcs reference over plain e = sym (ap counted (none_way (content_with coding dcs xs) reference over plain e))

-- ---- the septets of a text

septets_cut : (code : Code) (character : ℕ) (rest : List ℕ) → IsPair code character → septet_units (septets_in code ++ rest) ≡ septets_in code ∷ septet_units rest
septets_cut (Main septet) character [] p = refl
septets_cut (Main septet) character (next ∷ rest) p = rw (ne_eqb septet 27 p.1) refl
septets_cut (Extended septet) character rest p = refl

-- each character has a code
abbrev pub AreCoded : List ℕ → Type 0
AreCoded [] = Unit {0}
AreCoded (character ∷ text) = (lacks_code character ≡ false) × AreCoded text

-- the tally of septets, as the characters go by
abbrev pub coded : Option Tally → List ℕ → Option Tally
coded t [] = t
coded t (character ∷ text) = coded (with_code (code_for character) t) text

no_code : (code : Option Code) → with_code code None ≡ None
no_code (Some code) = refl
no_code None = refl

coded_none : (text : List ℕ) → coded None text ≡ None
coded_none [] = refl
coded_none (character ∷ text) = ap (λ (t : Option Tally). coded t text) (no_code (code_for character)) ∙ coded_none text

coded_one : (character : ℕ) (code : Code) (t : Tally) (text : List ℕ) → code_for character ≡ Some code
    → coded (Some (with_unit (length (septets_in code)) t)) text ≡ Some (tallied (with_unit (length (septets_in code)) t) (septet_units (flat_map septets_for text)))
    → coded (with_code (code_for character) (Some t)) text ≡ Some (tallied t (septet_units (septets_for character ++ flat_map septets_for text)))
unfolding septets_for
coded_one character code t text e later =
    let rest = flat_map septets_for text in
    let first : septets_for character ≡ septets_in code = ap septets_of_code e in
    let cut : septet_units (septets_for character ++ rest) ≡ septets_in code ∷ septet_units rest =
    ap (λ (s : List ℕ). septet_units (s ++ rest)) first ∙ septets_cut code character rest (pair_of_code character code e) in
    ap (λ (o : Option Code). coded (with_code o (Some t)) text) e ∙ later ∙ ap (λ (us : List (List ℕ)). Some (tallied t us)) (sym cut)

coded_next : (character : ℕ) (text : List ℕ) (t : Tally) (code : Option Code) → code_for character ≡ code → lacks_code character ≡ false
    → ((next : Tally) → coded (Some next) text ≡ Some (tallied next (septet_units (flat_map septets_for text)))) → coded (Some t) (character ∷ text) ≡ Some (tallied t (septet_units (flat_map septets_for (character ∷ text))))
unfolding lacks_code
coded_next character text t (Some code) e has later = coded_one character code t text e (later (with_unit (length (septets_in code)) t))
coded_next character text t None e has later = absurd (let lacks : is_uncoded (code_for character) ≡ true = ap is_uncoded e in cc)

pub coded_all : (text : List ℕ) (t : Tally) → AreCoded text → coded (Some t) text ≡ Some (tallied t (septet_units (flat_map septets_for text)))
coded_all [] t h = refl
coded_all (character ∷ text) t h = coded_next character text t (code_for character) refl h.0 (λ next. coded_all text next h.1)

-- the place of the first character that has none, or their number
first_lacking : List ℕ → ℕ
first_lacking text = position_or_len lacks_code text

first_after : (character : ℕ) (text : List ℕ) (b : Bool) → lacks_code character ≡ b → first_lacking (character ∷ text) ≡ cond (not b) (1 + first_lacking text) 0
unfolding first_lacking
first_after character text b e = ap (λ (x : Bool). cond (not x) (1 + position_or_len lacks_code text) 0) e

none_lacking : (text : List ℕ) → length text ≤ first_lacking text → AreCoded text
none_lacking [] h = tt
none_lacking (character ∷ text) h = more (lacks_code character) refl (λ le. none_lacking text le) where
  more : (b : Bool) → lacks_code character ≡ b → (length text ≤ first_lacking text → AreCoded text) → AreCoded (character ∷ text)
  more false e later = (e, later (omega (arith, first_after character text false e)))
  more true e later = absurd (omega (arith, first_after character text true e))

stops : (code : Option Code) (t : Option Tally) → is_uncoded code ≡ true → with_code code t ≡ None
stops None t e = refl
stops (Some code) t e = absurd cc

one_lacking : (text : List ℕ) (t : Option Tally) → first_lacking text < length text → coded t text ≡ None
unfolding lacks_code
one_lacking [] t h = absurd (omega arith)
one_lacking (character ∷ text) t h = more (lacks_code character) refl (λ lt. one_lacking text (with_code (code_for character) t) lt) where
  more : (b : Bool) → lacks_code character ≡ b → (first_lacking text < length text → coded (with_code (code_for character) t) text ≡ None) → coded (with_code (code_for character) t) text ≡ None
  more false e later = later (omega (arith, first_after character text false e))
  more true e later = ap (λ (x : Option Tally). coded x text) (stops (code_for character) t e) ∙ coded_none text

-- ---- the octets of UCS2 of a text

not_high : (c : ℕ) → scalar c ≡ true → c < 65536 → is_high_surrogate (c / 256) ≡ false
not_high c s lt = grind (arith, nat_tests)

in_range : (c : ℕ) → scalar c ≡ true → c < 1114112
in_range c s = grind (arith, nat_tests)

is_high : (o : ℕ) → 216 ≤ o → o < 220 → is_high_surrogate o ≡ true
is_high o a b = grind (arith, nat_tests)

is_low : (o : ℕ) → 220 ≤ o → o < 224 → is_low_surrogate o ≡ true
is_low o a b = grind (arith, nat_tests)

one_cut : (a b : ℕ) (rest : List ℕ) → is_high_surrogate a ≡ false → ucs2_units (a ∷ b ∷ rest) ≡ (a ∷ b ∷ []) ∷ ucs2_units rest
one_cut a b [] h = refl
one_cut a b (c ∷ []) h = refl
one_cut a b (c ∷ d ∷ rest) h = rw h refl

two_cut : (a b c d : ℕ) (rest : List ℕ) → is_high_surrogate a ≡ true → is_low_surrogate c ≡ true → ucs2_units (a ∷ b ∷ c ∷ d ∷ rest) ≡ (a ∷ b ∷ c ∷ d ∷ []) ∷ ucs2_units rest
two_cut a b c d rest h l = rw (h, l) refl

ucs2_cut : (character : ℕ) (rest : List ℕ) → scalar character ≡ true → ucs2_units (octets_for character ++ rest) ≡ octets_for character ∷ ucs2_units rest
unfolding octets_for
ucs2_cut character rest s = more (ltb character 65536) refl where
  more : (b : Bool) → ltb character 65536 ≡ b → ucs2_units (octets_for character ++ rest) ≡ octets_for character ∷ ucs2_units rest
  more true p = rw p (one_cut (character / 256) (character % 256) rest (not_high character s (ltb-true _ _ p)))
  more false p =
      let high = 0xD800 + (character - 65536) / 1024 in
      let low = 0xDC00 + (character - 65536) % 1024 in
      let above = ltb-false _ _ p in
      let below = in_range character s in
      rw p (two_cut (high / 256) (high % 256) (low / 256) (low % 256) rest (is_high (high / 256) (omega arith) (omega arith)) (is_low (low / 256) (omega arith) (omega arith)))

-- the tally of octets, as the characters go by
abbrev pub in_ucs2 : Tally → List ℕ → Tally
in_ucs2 t [] = t
in_ucs2 t (character ∷ text) = in_ucs2 (with_unit (length (octets_for character)) t) text

ucs2_all : (text : List ℕ) (t : Tally) → scalars text ≡ true → in_ucs2 t text ≡ tallied t (ucs2_units (ucs2_for text))
ucs2_all [] t h = refl
ucs2_all (character ∷ text) t h =
    let b = and_parts (scalar character) (scalars text) h in
    ucs2_all text (with_unit (length (octets_for character)) t) b.1 ∙ ap (tallied t) (sym (ucs2_cut character (ucs2_for text) b.0))

-- ---- a text

halves : (t : TextTally) (text : List ℕ) → with_text t text ≡ record { septets = coded t.septets text; ucs2 = in_ucs2 t.ucs2 text }
halves t [] = refl
halves t (character ∷ text) = halves (with_character character t) text

pub text_counts : (text : List ℕ) (reference : ℕ) → scalars text ≡ true → text_outcome (with_text text_begun text) ≡ counted (split_of (content_of_text text) reference)
unfolding spelled first_lacking
text_counts text reference s = ap text_outcome (halves text_begun text) ∙ more (ltb (first_lacking text) (length text)) refl where
  more : (b : Bool) → ltb (first_lacking text) (length text) ≡ b
      → either_outcome (coded (Some (tally_begun Septets)) text) (in_ucs2 (tally_begun Ucs2) text) ≡ counted (split_of (content_of_text text) reference)
  more true p =
      let none = one_lacking text (Some (tally_begun Septets)) (ltb-true _ _ p) in
      let ucs2 = ucs2_all text (tally_begun Ucs2) s in
      rw (none, p) (ap outcome ucs2 ∙ outcome_counts Ucs2 8 (ucs2_for text) reference refl)
  more false p =
      let all = coded_all text (tally_begun Septets) (none_lacking text (ltb-false _ _ p)) in
      rw (all, p) (outcome_counts Septets 0 (flat_map septets_for text) reference refl)

-- each octet is a character
octet_scalar : (c : ℕ) → c < 256 → scalar c ≡ true
octet_scalar c h = grind (arith, nat_tests)

pub octets_scalar : (octets : List ℕ) → AreOctets octets → scalars octets ≡ true
octets_scalar [] h = refl
octets_scalar (octet ∷ octets) h = rw (octet_scalar octet h.0) (octets_scalar octets h.1)

-- nothing of a text is left
pub text_ended : (t : TextTally) (rest : List ℕ) → length rest ≡ 0 → t ≡ with_text t (chars rest)
text_ended t [] e = let none : chars [] ≡ [] = chars-nil in rw none refl
text_ended t (x ∷ rest) e = absurd (omega arith)

-- ---- behind a header

more_units : (coding : Coding) (header n : ℕ) → data_length coding header n ≡ data_length coding header 0 + n
more_units Septets header n = omega arith
more_units Octets header n = omega arith
more_units Ucs2 header n = omega arith
more_units Compressed header n = omega arith

alone_left : (coding : Coding) (xs : List ℕ) → (tallied (tally_begun coding) (whole_units coding xs)).alone ≡ (capacity coding + 1) - length xs
alone_left coding xs =
    let begun : IsAt (room coding) [] (tally_begun coding) = record { room_is = refl; piece_is = omega arith; within = omega arith } in
    let l = left (room coding) [] (whole_units coding xs) (tally_begun coding) (room_above coding) (small_units coding xs) begun in
    l.alone_is ∙ ap (λ (n : ℕ). (capacity coding + 1) - n) (ap length (joined_units coding xs))

same_test : (taken whole alone size n : ℕ) → whole ≡ taken + n → alone ≡ (size + 1) - n → ltb taken alone ≡ leb whole size
same_test taken whole alone size n w a = more (leb whole size) refl where
  more : (b : Bool) → leb whole size ≡ b → ltb taken alone ≡ b
  more true p = lt-ltb taken alone (omega (arith, leb-true _ _ p))
  more false p = le-ltb taken alone (omega (arith, leb-false _ _ p))

units_fit : (header : ℕ) (coding : Coding) (xs : List ℕ) → unit_tally_fits_behind header coding (tallied (tally_begun coding) (whole_units coding xs)) ≡ leb (data_length coding header (length xs)) (capacity coding)
units_fit header coding xs =
    same_test (data_length coding header 0) (data_length coding header (length xs)) (tallied (tally_begun coding) (whole_units coding xs)).alone (capacity coding) (length xs) (more_units coding header (length xs)) (alone_left coding xs)

fits_content : ℕ → Content → Bool
fits_content header content = leb (data_length content.coding header (length content.units)) (capacity content.coding)

pub text_fits : (text : List ℕ) (header : ℕ) → scalars text ≡ true → text_fits_behind header (with_text text_begun text) ≡ leb (data_length (content_of_text text).coding header (length (content_of_text text).units)) (capacity (content_of_text text).coding)
unfolding spelled first_lacking fits_content
text_fits text header s = ap (text_fits_behind header) (halves text_begun text) ∙ more (ltb (first_lacking text) (length text)) refl where
  more : (b : Bool) → ltb (first_lacking text) (length text) ≡ b → either_fits_behind header (coded (Some (tally_begun Septets)) text) (in_ucs2 (tally_begun Ucs2) text) ≡ fits_content header (content_of_text text)
  more true p =
      let none = one_lacking text (Some (tally_begun Septets)) (ltb-true _ _ p) in
      let ucs2 = ucs2_all text (tally_begun Ucs2) s in
      rw (none, p) (ap (unit_tally_fits_behind header Ucs2) ucs2 ∙ units_fit header Ucs2 (ucs2_for text))
  more false p =
      let all = coded_all text (tally_begun Septets) (none_lacking text (ltb-false _ _ p)) in
      rw (all, p) (units_fit header Septets (flat_map septets_for text))
