-- A text in the septets of the default alphabet (3GPP TS 23.038 6.2.1). A text is the list of its characters' codes.
use Rattle.std.specs.Prelude.{◌≡◌, ℕ, List, [], Bool, true, false, Option, Some, None, Result, Ok, Err, position, flat_map}
use Rattle.sms_base.specs.declared.alphabet.Code.{Code}
use Rattle.sms_base.specs.Alphabet.{septets_in, code_for}
use Rattle.sms_alphabet.specs.declared.spelling.SpellingError.{SpellingError}
use Rattle.sms_alphabet.specs.declared.spelling.SpellingError.TheVariants.{NoCode, NoMemory}

-- the septets of a character, none if it has no code
abbrev pub septets_of_code : Option Code → List ℕ
septets_of_code (Some code) = septets_in code
septets_of_code None = []

unfoldable pub septets_for : ℕ → List ℕ
septets_for character = septets_of_code (code_for character)

abbrev pub is_uncoded : Option Code → Bool
is_uncoded (Some code) = false
is_uncoded None = true

unfoldable pub lacks_code : ℕ → Bool
lacks_code character = is_uncoded (code_for character)

abbrev pub unless_uncoded : Option ℕ → List ℕ → Result (List ℕ) SpellingError
unless_uncoded (Some place) septets = Err (NoCode place)
unless_uncoded None septets = Ok septets

-- the septets of a text, or the place of its first character that has no code, counted from 0
unfoldable pub spelled : List ℕ → Result (List ℕ) SpellingError
spelled text = unless_uncoded (position lacks_code text) (flat_map septets_for text)

-- The answer is the wanted one. Want of memory is reported only where the text can be spelled.
abbrev pub AnswersSpelling : Result (List ℕ) SpellingError → Result (List ℕ) SpellingError → Type 0
AnswersSpelling (Ok septets) wanted = wanted ≡ Ok septets
AnswersSpelling (Err NoMemory) wanted = (septets : List ℕ) × (wanted ≡ Ok septets)
AnswersSpelling (Err (NoCode place)) wanted = wanted ≡ Err (NoCode place)
