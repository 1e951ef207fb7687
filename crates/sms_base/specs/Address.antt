-- Addresses (3GPP TS 23.040 9.1.2.5): a type of number, a numbering plan, and 1 to 20 digits or a name of 1 to 11
-- septets. A text is the list of its characters' codes.
use Rattle.std.specs.Prelude.{◌≡◌, ℕ, ◌+◌, ◌<◌, ◌≤◌, List, [], ◌∷◌, length, Option, Some, None, Result, Ok, Err, Bool, true, false, nat_lt, is_some}
use Rattle.std.specs.Prelude.{if◌then◌else◌}
use Rattle.std.specs.List.{AllByRecursion}
use Rattle.std.specs.Option.{ok_or}
use Rattle.sms_base.specs.Reading.{◌>>=◌, only_if}
use Rattle.sms_base.specs.AddressKind.{type_of, type_number, is_name}
use Rattle.sms_base.specs.SemiOctet.{is_digit}
use Rattle.sms_base.specs.Alphabet.{code_for, septets_in}
use Rattle.sms_base.specs.declared.alphabet.Code.{Code}
use Rattle.sms_base.specs.declared.address.Address.{Address}
use Rattle.sms_base.specs.declared.address_error.AddressError.{AddressError}
use Rattle.sms_base.specs.declared.address_error.AddressError.TheVariants.{Empty, TooLong, BadDigit, BadName, BadKind}
use Rattle.sms_base.specs.declared.type_of_number.TypeOfNumber.{TypeOfNumber}

-- a text of at most 20 digits
pub record IsNumber (text : List ℕ) : Type 0 where
  pub few : length text ≤ 20
  pub digits : AllByRecursion (λ c. is_digit c ≡ true) text

-- how many septets a character takes; one without a code counts as one
abbrev pub width_of : Option Code → ℕ
width_of (Some code) = length (septets_in code)
width_of None = 1

abbrev pub septet_count : List ℕ → ℕ
septet_count [] = 0
septet_count (c ∷ cs) = width_of (code_for c) + septet_count cs

abbrev pub has_code : ℕ → Bool
has_code c = is_some (code_for c)

-- a text of at most 11 septets of the default alphabet
pub record IsName (text : List ℕ) : Type 0 where
  pub few : septet_count text ≤ 11
  pub characters : AllByRecursion (λ c. has_code c ≡ true) text

-- the text of an address of that type
pub record IsAddressText (ton : TypeOfNumber) (text : List ℕ) : Type 0 where
  pub some : 0 < length text
  pub number : is_name ton ≡ false → IsNumber text
  pub name : is_name ton ≡ true → IsName text

-- a unit may have the address
pub record IsAddress (address : Address) : Type 0 where
  pub npi : address.npi < 16
  pub digits : IsAddressText address.ton address.digits

-- the address with that type of number, that numbering plan and that text
pub record IsAddressOf (ton npi : ℕ) (text : List ℕ) (address : Address) : Type 0 where
  pub ton_is : type_number address.ton ≡ ton
  pub npi_is : address.npi ≡ npi
  pub text_is : address.digits ≡ text
  pub valid : IsAddress address

-- ---- the first fault from the left

-- the fault of the first character that may not be there, behind that many digits
unfoldable pub number_fault : ℕ → List ℕ → Option AddressError
number_fault before [] = None
number_fault before (c ∷ cs) =
    if nat_lt before 20 then (if is_digit c then number_fault (before + 1) cs else Some BadDigit) else Some TooLong

-- that fault of a name, behind that many septets
unfoldable pub name_fault : ℕ → List ℕ → Option AddressError
name_fault before [] = None
name_fault before (c ∷ cs) =
    let upto = before + width_of (code_for c) in
    if nat_lt 11 upto then Some TooLong else (if has_code c then name_fault upto cs else Some BadName)

abbrev pub text_fault : Bool → List ℕ → Option AddressError
text_fault true text = name_fault 0 text
text_fault false text = number_fault 0 text

-- the value, unless there is a fault
abbrev pub unless : {X : Type 0} → Option AddressError → X → Result X AddressError
unless None x = Ok x
unless (Some fault) x = Err fault

-- the address of a type of number, a numbering plan and a text
unfoldable pub address_of : ℕ → ℕ → List ℕ → Result Address AddressError
address_of ton npi text = do
  kind ← ok_or (type_of ton) BadKind
  plan ← only_if (nat_lt npi 16) BadKind
  digits ← unless (text_fault (is_name kind) text) text
  some ← only_if (nat_lt 0 (length text)) Empty
  Ok (record { ton = kind; npi = npi; digits = digits })
