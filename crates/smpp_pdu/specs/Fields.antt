-- The fields that PDUs share (SMPP v3.4 3.1), and their octets.
use Rattle.std.specs.Prelude.{◌≡◌, ◌⊎◌, ℕ, ◌/◌, ◌%◌, ◌<◌, List, [], ◌∷◌, ◌++◌, length}
use Rattle.std.specs.List.{AllByRecursion}

-- an integer of two octets, the most significant first
abbrev pub two : ℕ → List ℕ
two n = n / 256 ∷ n % 256 ∷ []

-- an integer of four octets, the most significant first
abbrev pub four : ℕ → List ℕ
four n = n / 65536 / 256 ∷ n / 65536 % 256 ∷ n % 65536 / 256 ∷ n % 256 ∷ []

-- a C-octet string: the text, which NUL ends
abbrev pub c_string : List ℕ → List ℕ
c_string text = text ++ 0 ∷ []

-- What a C-octet string of at most so many octets, NUL included, may have as its text.
pub record IsText (limit : ℕ) (text : List ℕ) : Type 0 where
  pub no_nul : AllByRecursion (λ octet. 0 < octet) text
  pub short : length text < limit

-- A time is none or has sixteen characters (SMPP v3.4 7.1.1); which ones is not looked at here.
pub record IsTimeText (text : List ℕ) : Type 0 where
  pub time : IsText 17 text
  pub length_is : (length text ≡ 0) ⊎ (length text ≡ 16)

-- a message behind the number of its octets (SMPP v3.4 5.2.21, 5.2.22)
abbrev pub counted : List ℕ → List ℕ
counted octets = length octets ∷ octets
