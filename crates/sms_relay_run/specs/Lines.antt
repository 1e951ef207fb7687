-- Lines of input and output: one line of hexadecimal digits in, a number and hexadecimal digits on each line out.
-- A text is the list of its octets; LF is 10.
use Rattle.std.specs.Prelude.{ℕ, List, [], ◌∷◌, ◌++◌, length, Result, Ok, Err, ◌==◌, nat_lt, if◌then◌else◌}
use Rattle.std.specs.Str.{encode_utf8_all}
use Rattle.hex.specs.Hex.{decode_of, encode_upper}
use Rattle.hex.specs.declared.error.FromHexError.{FromHexError}

-- the octets before the first LF
abbrev pub first_line : List ℕ → List ℕ
first_line [] = []
first_line (octet ∷ octets) = if octet == 10 then [] else octet ∷ first_line octets

-- the octets behind it
abbrev pub behind_line : List ℕ → List ℕ
behind_line [] = []
behind_line (octet ∷ octets) = if octet == 10 then octets else behind_line octets

-- a line has at most so many octets, its LF not counted
abbrev pub longest_line : ℕ
longest_line = 16384

-- the octets, unless a second line follows; a bad line is reported by its number
abbrev pub alone : List ℕ → List ℕ → Result (List ℕ) ℕ
alone octets [] = Ok octets
alone octets (octet ∷ more) = Err 2

abbrev pub line_octets : Result (List ℕ) FromHexError → List ℕ → Result (List ℕ) ℕ
line_octets (Ok octets) behind = alone octets behind
line_octets (Err fault) behind = Err 1

-- The octets that the one line of an input spells. The LF may be missing, an empty line is no octets, and no line is
-- a bad line. What is wrong with the first line is reported before a second line, even an empty one.
unfoldable pub frame_in : List ℕ → Result (List ℕ) ℕ
frame_in [] = Err 1
frame_in (octet ∷ octets) =
    let line = first_line (octet ∷ octets) in
    if nat_lt longest_line (length line) then Err 1 else line_octets (decode_of line) (behind_line (octet ∷ octets))

-- a number, which is a text, and a frame on a line
abbrev pub line_of : List ℕ → List ℕ → List ℕ
line_of number frame = encode_utf8_all number ++ (32 ∷ (encode_upper frame ++ 10 ∷ []))
