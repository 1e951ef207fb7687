-- 3GPP TS 23.040 9.2.3.24: the user data header, which is its length and elements that fill it exactly.
use Rattle.std.specs.Prelude.{◌≡◌, ℕ, zero, suc, List, [], ◌∷◌, ◌<◌, ◌≤◌, ◌++◌, length, take, Result, Ok, Err, nat_lt, if◌then◌else◌}
use Rattle.sms_base.specs.Reading.{◌>>=◌, octet_in, run_in}
use Rattle.sms_alphabet.specs.declared.element.Element.{Element}
use Rattle.sms_alphabet.specs.declared.header_error.HeaderError.{HeaderError}
use Rattle.sms_alphabet.specs.declared.header_error.HeaderError.TheVariants.{Truncated, BadLength}

-- each element is its identifier, the number of its octets, and these
abbrev pub spelled : List Element → List ℕ
spelled [] = []
spelled (e ∷ es) = e.identifier ∷ length e.octets ∷ (e.octets ++ spelled es)

-- the header that has these elements: how many octets they take, and they
abbrev pub written : List Element → List ℕ
written elements = length (spelled elements) ∷ spelled elements

-- the octets begin with the header; what follows it is not looked at
abbrev pub BeginsWith : List ℕ → List Element → Type 0
BeginsWith octets elements = (rest : List ℕ) × (octets ≡ written elements ++ rest)

-- What is at the front of the octets: the header, or why there is none. They end before the header does, or the
-- octets of the header are there and no elements fill them.
abbrev pub HeaderIs : List ℕ → Result (List Element) HeaderError → Type 0
HeaderIs octets (Ok elements) = BeginsWith octets elements
HeaderIs [] (Err Truncated) = Unit {0}
HeaderIs (size ∷ rest) (Err Truncated) = length rest < size
HeaderIs [] (Err BadLength) = ⊥
HeaderIs (size ∷ rest) (Err BadLength) = (size ≤ length rest) × ((elements : List Element) → spelled elements ≡ take size rest → ⊥)

-- ---- the same computed from left to right, which the law `header_is_read_by_the_grammar` ties to it

-- the elements that follow so many octets
unfoldable pub elements_behind : ℕ → List ℕ → Result (List Element) HeaderError
elements_behind zero [] = Ok []
elements_behind zero (identifier ∷ []) = Err BadLength
elements_behind zero (identifier ∷ size ∷ rest) =
    if nat_lt (length rest) size then Err BadLength
    else (elements_behind size rest >>= (λ elements. Ok (record { identifier = identifier; octets = take size rest } ∷ elements)))
elements_behind (suc n) [] = Err BadLength
elements_behind (suc n) (octet ∷ rest) = elements_behind n rest

abbrev pub elements_in : List ℕ → Result (List Element) HeaderError
elements_in octets = elements_behind 0 octets

-- the header that the octets begin with, or why there is none
unfoldable pub header_at : List ℕ → Result (List Element) HeaderError
header_at octets = do
  size ← octet_in Truncated octets
  elements ← run_in Truncated size.0 size.1
  elements_in elements.0

-- one element, and the octets behind it
unfoldable pub element_in : List ℕ → Result (Element × List ℕ) HeaderError
element_in octets = do
  identifier ← octet_in BadLength octets
  size ← octet_in BadLength identifier.1
  body ← run_in BadLength size.0 size.1
  Ok (record { identifier = identifier.0; octets = body.0 }, body.1)

-- ---- what a header holds

-- the elements of octets that elements fill
abbrev pub or_none : Result (List Element) HeaderError → List Element
or_none (Ok elements) = elements
or_none (Err e) = []

abbrev pub elements_of : List ℕ → List Element
elements_of octets = or_none (elements_in octets)

-- elements fill the octets, and a length octet can count them
pub record AreElements (octets : List ℕ) : Type 0 where
  pub few : length octets < 256
  pub filled : spelled (elements_of octets) ≡ octets

-- a test found elements that fill the octets, or the fault of which there are none
abbrev pub Tests : Result (Unit {0}) HeaderError → Result (List Element) HeaderError → Type 0
Tests (Ok done) read = (elements : List Element) × (read ≡ Ok elements)
Tests (Err e) read = read ≡ Err e
