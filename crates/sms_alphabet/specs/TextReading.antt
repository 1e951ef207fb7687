-- The text that septets of the default alphabet are read as (3GPP TS 23.038 6.2.1 and 6.2.1.1).
use Rattle.std.specs.Prelude.{◌≡◌, ℕ, ◌⊎◌, List, [], ◌∷◌, ◌++◌, Result, Ok, Err, nat_lt, if◌then◌else◌}
use Rattle.std.specs.List.{list_all}
use Rattle.sms_base.specs.declared.alphabet.Code.{Code}
use Rattle.sms_base.specs.declared.alphabet.Code.TheVariants.{Main, Extended}
use Rattle.sms_base.specs.declared.alphabet.TheConstants.{ESCAPE}
use Rattle.sms_base.specs.Alphabet.{IsPair, septets_in, text_in}
use Rattle.sms_alphabet.specs.declared.reading.ReadingError.{ReadingError}
use Rattle.sms_alphabet.specs.declared.reading.ReadingError.TheVariants.{NotSeptet, NoMemory}

-- a code of the alphabet
abbrev pub IsCoded : List ℕ → ℕ → Type 0
IsCoded piece character = (code : Code) × IsPair code character × (piece ≡ septets_in code)

-- ESC before a septet that the extension table lacks is read as that septet alone
abbrev pub IsUnknown : List ℕ → ℕ → Type 0
IsUnknown piece character =
    (septet : ℕ) × IsPair (Main septet) character × ((other : ℕ) → IsPair (Extended septet) other → ⊥) × (piece ≡ ESCAPE ∷ septet ∷ [])

-- a second ESC is read as a space, and so is ESC as the last septet
abbrev pub IsDouble : List ℕ → ℕ → Type 0
IsDouble piece character = (piece ≡ ESCAPE ∷ ESCAPE ∷ []) × (character ≡ 32)

abbrev pub IsLast : List ℕ → List ℕ → ℕ → Type 0
IsLast piece rest character = (piece ≡ ESCAPE ∷ []) × (rest ≡ []) × (character ≡ 32)

-- a piece of the septets, what follows it, and the character that it is read as
abbrev pub IsPiece : List ℕ → List ℕ → ℕ → Type 0
IsPiece piece rest character = IsCoded piece character ⊎ (IsUnknown piece character ⊎ (IsDouble piece character ⊎ IsLast piece rest character))

-- the septets cut from the left into the pieces of the text's characters
abbrev pub IsReading : List ℕ → List ℕ → Type 0
IsReading septets [] = septets ≡ []
IsReading septets (character ∷ text) =
    (piece : List ℕ) × (rest : List ℕ) × IsPiece piece rest character × (septets ≡ piece ++ rest) × IsReading rest text

-- the text, unless a number is no septet
unfoldable pub text_read : List ℕ → Result (List ℕ) ReadingError
text_read septets = if list_all (λ septet. nat_lt septet 128) septets then Ok (text_in septets) else Err NotSeptet

-- The answer, seen by view, is the wanted one. Want of memory is reported only where there is a text.
abbrev pub AnswersText : {X : Type 0} → (X → List ℕ) → Result X ReadingError → Result (List ℕ) ReadingError → Type 0
AnswersText view (Ok text) wanted = wanted ≡ Ok (view text)
AnswersText view (Err NoMemory) wanted = (text : List ℕ) × (wanted ≡ Ok text)
AnswersText view (Err NotSeptet) wanted = wanted ≡ Err NotSeptet
