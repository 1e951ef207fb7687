-- The texts of a submit_sm.
use Rattle.std.proofs.Common.{◌≡◌, ℕ, ◌+◌, ◌*◌, ◌%◌, true, ltb, List, [], ◌∷◌, length, flat_map, Result, Ok, Err, refl, arith}
use Rattle.std.proofs.lemmas.Bool.{ltb-true, eq-eqb, and_parts}
use Rattle.std.proofs.lemmas.List.{length-append}
use Rattle.std.specs.Char.Escape.{encode_utf16}
use Rattle.sms_alphabet.specs.declared.spelling.SpellingError.{SpellingError}
use Rattle.sms_alphabet.specs.Packing.{AreSeptets}
use Rattle.sms_alphabet.specs.Spelling.{spelled}
use Rattle.sms_alphabet.specs.Ucs2.{octets_for, ucs2_for, unit_octets}
use Rattle.sms_alphabet.proofs.Pieces.{below, spelling_below}
use Rattle.sms_alphabet.proofs.Spellings.{spelled_spells}
use Rattle.sms_concat.specs.TextContent.{content_of_text, content_spelled}
use Rattle.sms_concat.specs.UserData.{AreUnits}
use Rattle.sms_intake.specs.declared.content_form.ContentForm.{ContentForm}
use Rattle.sms_intake.specs.declared.content_form.ContentForm.TheVariants.{Units, Characters}
use Rattle.sms_intake.specs.Forms.{AreOfForm, content_as}
use Rattle.sms_intake.specs.SmppIntake.{are_whole, is_ascii}

-- ---- units

pub ascii_septets : (octets : List ℕ) → is_ascii octets ≡ true → AreSeptets octets
ascii_septets [] h = λ k d lt. absurd (omega arith)
ascii_septets (octet ∷ octets) h =
    let b = and_parts (ltb octet 128) (is_ascii octets) h in
    λ k d lt. below octet octets (ltb-true octet 128 b.0) (ascii_septets octets b.1) k d lt

spelled_units : (text : List ℕ) (r : Result (List ℕ) SpellingError) → spelled text ≡ r → AreUnits (content_spelled text r).coding (content_spelled text r).units
spelled_units text (Ok septets) e = spelling_below septets text (spelled_spells text septets e)
spelled_units text (Err fault) e = tt

pub form_units : (form : ContentForm) (octets : List ℕ) → AreOfForm form octets → AreUnits (content_as form octets).coding (content_as form octets).units
form_units (Units coding dcs) octets h = h
form_units Characters octets h = spelled_units octets (spelled octets) refl

-- ---- UCS2 has whole units

twice : (units : List ℕ) → length (flat_map unit_octets units) ≡ 2 * length units
twice [] = refl
twice (unit ∷ units) = let later = twice units in omega arith

character_even : (character : ℕ) → length (octets_for character) ≡ 2 * length (encode_utf16 character)
unfolding octets_for
character_even character = twice (encode_utf16 character)

text_even : (text : List ℕ) → (k : ℕ) × (length (ucs2_for text) ≡ 2 * k)
text_even [] = (0, refl)
text_even (character ∷ text) =
    let later = text_even text in
    (length (encode_utf16 character) + later.0, omega (arith, length-append (octets_for character) (ucs2_for text), character_even character, later.1))

spelled_whole : (text : List ℕ) (r : Result (List ℕ) SpellingError) → are_whole (content_spelled text r).coding (content_spelled text r).units ≡ true
spelled_whole text (Ok septets) = refl
spelled_whole text (Err fault) = let e = text_even text in eq-eqb (length (ucs2_for text) % 2) 0 (omega (arith, e.1))

pub text_whole : (text : List ℕ) → are_whole (content_of_text text).coding (content_of_text text).units ≡ true
text_whole text = spelled_whole text (spelled text)
