-- A text in UCS2 (3GPP TS 23.038 6.2.3): 16-bit units, the high octet first. A character above FFFF is a high and a
-- low surrogate, as in UTF-16. A text is the list of its characters' codes.
use Rattle.std.specs.Prelude.{◌≡◌, ℕ, ◌+◌, ◌*◌, ◌/◌, ◌%◌, List, [], ◌∷◌, Result, Ok, Err, flat_map, if◌then◌else◌}
use Rattle.std.specs.Char.Escape.{encode_utf16}
use Rattle.std.specs.Char.Utf16.{is_high_surrogate, is_low_surrogate, surrogate_pair_char}
use Rattle.sms_alphabet.specs.declared.ucs2.Ucs2Error.{Ucs2Error}
use Rattle.sms_alphabet.specs.declared.ucs2.Ucs2Error.TheVariants.{OddLength, LoneSurrogate, NoMemory}

-- the two octets of a unit
abbrev pub unit_octets : ℕ → List ℕ
unit_octets unit = unit / 256 ∷ unit % 256 ∷ []

-- the octets of a character
unfoldable pub octets_for : ℕ → List ℕ
octets_for character = flat_map unit_octets (encode_utf16 character)

-- the octets of a text
abbrev pub ucs2_for : List ℕ → List ℕ
ucs2_for text = flat_map octets_for text

-- the text continues behind a character
abbrev pub behind : ℕ → Result (List ℕ) Ucs2Error → Result (List ℕ) Ucs2Error
behind character (Ok text) = Ok (character ∷ text)
behind character (Err fault) = Err fault

abbrev pub unit_of : ℕ → ℕ → ℕ
unit_of high low = 256 * high + low

-- The text of octets, or the first fault from the left. A fault is a low surrogate that follows no high one, or a high
-- surrogate that no low one follows (at the end too). A lone octet is one, too.
unfoldable pub ucs2_in : List ℕ → Result (List ℕ) Ucs2Error
ucs2_in [] = Ok []
ucs2_in (a ∷ []) = Err OddLength
ucs2_in (a ∷ b ∷ []) =
    let unit = unit_of a b in
    if is_low_surrogate unit then Err LoneSurrogate
    else (if is_high_surrogate unit then Err LoneSurrogate else Ok (unit ∷ []))
ucs2_in (a ∷ b ∷ c ∷ []) =
    if is_low_surrogate (unit_of a b) then Err LoneSurrogate else Err OddLength
ucs2_in (a ∷ b ∷ c ∷ d ∷ rest) =
    let unit = unit_of a b in
    let next = unit_of c d in
    if is_low_surrogate unit then Err LoneSurrogate
    else (if is_high_surrogate unit then (if is_low_surrogate next then behind (surrogate_pair_char unit next) (ucs2_in rest) else Err LoneSurrogate)
    else behind unit (ucs2_in (c ∷ d ∷ rest)))

-- The answer, seen by view, is the wanted one. Want of memory is reported only where there is a text.
abbrev pub AnswersUcs2 : {X : Type 0} → (X → List ℕ) → Result X Ucs2Error → Result (List ℕ) Ucs2Error → Type 0
AnswersUcs2 view (Ok text) wanted = wanted ≡ Ok (view text)
AnswersUcs2 view (Err NoMemory) wanted = (text : List ℕ) × (wanted ≡ Ok text)
AnswersUcs2 view (Err OddLength) wanted = wanted ≡ Err OddLength
AnswersUcs2 view (Err LoneSurrogate) wanted = wanted ≡ Err LoneSurrogate

-- a test of the same: whether there is a text, else the fault
abbrev pub Tested : Result (Unit {0}) Ucs2Error → Result (List ℕ) Ucs2Error → Type 0
Tested (Ok passed) wanted = (text : List ℕ) × (wanted ≡ Ok text)
Tested (Err NoMemory) wanted = ⊥
Tested (Err OddLength) wanted = wanted ≡ Err OddLength
Tested (Err LoneSurrogate) wanted = wanted ≡ Err LoneSurrogate

-- a refusal of that text: want of memory is reported only where there is a text
abbrev pub Refuses : Ucs2Error → Result (List ℕ) Ucs2Error → Type 0
Refuses NoMemory wanted = (text : List ℕ) × (wanted ≡ Ok text)
Refuses OddLength wanted = wanted ≡ Err OddLength
Refuses LoneSurrogate wanted = wanted ≡ Err LoneSurrogate
