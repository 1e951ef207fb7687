-- The tables of the codes of the characters below 256, of what ESC leads to, and of digits: each is computed through once.
use Rattle.std.proofs.Common.{◌≡◌, ℕ, ◌+◌, ◌<◌, Bool, true, false, eqb, get_or, slice_index, Option, Some, None, refl, sym, ap, ◌∙◌, arith}
use Rattle.std.proofs.lemmas.Bool.{eqb-true}
use Rattle.sms_base.specs.declared.alphabet.Code.{Code}
use Rattle.sms_base.specs.declared.alphabet.TheConstants.{LATIN_CODES, AFTER_ESCAPE}
use Rattle.sms_base.specs.declared.semi_octet.TheConstants.{DIGITS}
use Rattle.sms_base.specs.SemiOctet.{digit_of}
use Rattle.sms_base.specs.Alphabet.{code_for, main_septet_of, extended_septet_of, main_character, extended_character_of, escaped_character}
use Rattle.sms_base.specs.LatinCodes.{latin_entry}
use Rattle.sms_base.proofs.Alphabets.{each_from, each_at, same_code, is_code}

same_codes : Option Code → Option Code → Bool
same_codes found (Some code) = same_code found code
same_codes (Some code) None = false
same_codes None None = true

are_codes : (a b : Option Code) → same_codes a b ≡ true → a ≡ b
unfolding same_codes
are_codes a (Some code) e = is_code a code e
are_codes (Some code) None e = absurd cc
are_codes None None e = refl

latin_test : ℕ → ℕ → Bool
latin_test character entry = same_codes (code_for character) (latin_entry entry)

latin_passes : each_from latin_test 0 LATIN_CODES ≡ true
unfolding each_from latin_test same_codes same_code code_for main_septet_of extended_septet_of
latin_passes = refl

pub latin_is : (character : ℕ) → character < 256 → latin_entry (slice_index LATIN_CODES character) ≡ code_for character
unfolding latin_test
latin_is character lt =
    let passed : latin_test (0 + character) (get_or LATIN_CODES character 0) ≡ true = each_at latin_test 0 LATIN_CODES character latin_passes lt in
    let zeroed : 0 + character ≡ character = omega arith in
    sym (are_codes (code_for character) (latin_entry (get_or LATIN_CODES character 0)) (ap (λ (n : ℕ). latin_test n (get_or LATIN_CODES character 0)) (sym zeroed) ∙ passed))

escaped_test : ℕ → ℕ → Bool
escaped_test septet character = eqb character (escaped_character septet)

escaped_passes : each_from escaped_test 0 AFTER_ESCAPE ≡ true
unfolding each_from escaped_test escaped_character extended_character_of main_character
escaped_passes = refl

pub escaped_is : (septet : ℕ) → septet < 128 → slice_index AFTER_ESCAPE septet ≡ escaped_character septet
unfolding escaped_test
escaped_is septet lt =
    let passed : escaped_test (0 + septet) (get_or AFTER_ESCAPE septet 0) ≡ true = each_at escaped_test 0 AFTER_ESCAPE septet escaped_passes lt in
    let zeroed : 0 + septet ≡ septet = omega arith in
    eqb-true _ _ (ap (λ (n : ℕ). escaped_test n (get_or AFTER_ESCAPE septet 0)) (sym zeroed) ∙ passed)

digit_test : ℕ → ℕ → Bool
digit_test semi_octet digit = eqb digit (digit_of semi_octet)

digit_passes : each_from digit_test 0 DIGITS ≡ true
unfolding each_from digit_test
digit_passes = refl

pub digit_is : (semi_octet : ℕ) → semi_octet < 15 → slice_index DIGITS semi_octet ≡ digit_of semi_octet
unfolding digit_test
digit_is semi_octet lt =
    let passed : digit_test (0 + semi_octet) (get_or DIGITS semi_octet 0) ≡ true = each_at digit_test 0 DIGITS semi_octet digit_passes lt in
    let zeroed : 0 + semi_octet ≡ semi_octet = omega arith in
    eqb-true _ _ (ap (λ (n : ℕ). digit_test n (get_or DIGITS semi_octet 0)) (sym zeroed) ∙ passed)
