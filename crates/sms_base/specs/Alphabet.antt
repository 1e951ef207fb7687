-- 3GPP TS 23.038 6.2.1 and 6.2.1.1: the default alphabet, texts written in it, and the texts that septets are read as.
-- A text is the list of its characters' codes.
use Rattle.std.specs.Prelude.{◌≡◌, ◌≢◌, ℕ, ◌<◌, List, [], ◌∷◌, ◌++◌, ◌==◌, Option, Some, None, position, find, option_map, slice_index, Contains, if◌then◌else◌}
use Rattle.sms_base.specs.declared.alphabet.Code.{Code}
use Rattle.sms_base.specs.declared.alphabet.Code.TheVariants.{Main, Extended}
use Rattle.sms_base.specs.declared.alphabet.TheConstants.{ESCAPE, MAIN_TABLE, EXTENSION_TABLE}

-- the septets of a code
abbrev pub septets_in : Code → List ℕ
septets_in (Main septet) = septet ∷ []
septets_in (Extended septet) = ESCAPE ∷ septet ∷ []

-- The alphabet, a set of pairs: a code and its character.
abbrev pub IsPair : Code → ℕ → Type 0
IsPair (Main septet) character = (septet < 128) × (septet ≢ ESCAPE) × (character ≡ slice_index MAIN_TABLE septet)
IsPair (Extended septet) character = Contains EXTENSION_TABLE (record { 0 = septet; 1 = character })

-- the septets spell the text: they cut into the codes of its characters
abbrev pub IsSpelling : List ℕ → List ℕ → Type 0
IsSpelling septets [] = septets ≡ []
IsSpelling septets (character ∷ text) =
    (code : Code) × (rest : List ℕ) × IsPair code character × (septets ≡ septets_in code ++ rest) × IsSpelling rest text

-- the septet of a character in a table
unfoldable pub main_septet_of : ℕ → Option ℕ
main_septet_of character = position (λ other. other == character) MAIN_TABLE

unfoldable pub extended_septet_of : ℕ → Option ℕ
extended_septet_of character = option_map (λ pair. pair.0) (find (λ pair. pair.1 == character) EXTENSION_TABLE)

-- how a character is written; ESC itself is no character
abbrev pub first_code : Option ℕ → Option ℕ → Option Code
first_code (Some septet) extended = Some (Main septet)
first_code None (Some septet) = Some (Extended septet)
first_code None None = None

unfoldable pub code_for : ℕ → Option Code
code_for character = if character == 27 then None else first_code (main_septet_of character) (extended_septet_of character)

-- Reading.

-- the character of a septet of the main table
unfoldable pub main_character : ℕ → ℕ
main_character septet = slice_index MAIN_TABLE septet

-- the character of ESC and a septet in the extension table
unfoldable pub extended_character_of : ℕ → Option ℕ
extended_character_of septet = option_map (λ pair. pair.1) (find (λ pair. pair.0 == septet) EXTENSION_TABLE)

abbrev pub or_else : Option ℕ → ℕ → ℕ
or_else (Some character) other = character
or_else None other = other

-- What ESC and a septet are read as. A second ESC is a space, and what the extension table lacks is the character of
-- the main table.
unfoldable pub escaped_character : ℕ → ℕ
escaped_character septet = if septet == ESCAPE then 32 else or_else (extended_character_of septet) (main_character septet)

-- the text that septets are read as, cut from the left; ESC as the last one is a space
abbrev pub text_in : List ℕ → List ℕ
text_in [] = []
text_in (septet ∷ []) = (if septet == ESCAPE then 32 else main_character septet) ∷ []
text_in (septet ∷ next ∷ rest) =
    if septet == ESCAPE then escaped_character next ∷ text_in rest else main_character septet ∷ text_in (next ∷ rest)
