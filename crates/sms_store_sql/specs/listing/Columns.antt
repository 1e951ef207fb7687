-- What the columns of a row mean. What no row of a list writes there has no meaning that matters.
use Rattle.std.specs.Prelude.{ℕ, ◌<◌, ◌^◌, ℤ, pos, Bool, not, nat_eq, if◌then◌else◌, List, [], Option, Some, None, chars, bytes_eq}
use Rattle.sqlite_sql.specs.Ops.{is_null}
use Rattle.sqlite.specs.declared.types.Value.{Value}
use Rattle.sqlite.specs.declared.types.Value.TheVariants.{Null, Int, Text, Blob}

abbrev pub natural : ℤ → ℕ
natural (pos n) = n
natural _ = 0

-- a number
abbrev pub number_in : Value → ℕ
number_in (Int n) = natural n
number_in _ = 0

-- octets
abbrev pub octets_in : Value → List ℕ
octets_in (Blob octets) = octets
octets_in _ = []

-- a text, as the octets of UTF-8
abbrev pub text_in : Value → List ℕ
text_in (Text text) = text
text_in _ = []

-- the characters of a text
abbrev pub characters_in : Value → List ℕ
characters_in value = chars (text_in value)

-- what there is, or nothing where the column is NULL
abbrev pub if_given : {A : Type 0} → (Value → A) → Value → Option A
if_given read value = if is_null value then None else Some (read value)

-- 1 for what is so, 0 for what is not
abbrev pub flag_in : Value → Bool
flag_in value = not (nat_eq (number_in value) 0)

abbrev pub flag : Bool → Value
flag b = Int (if b then pos 1 else pos 0)

abbrev pub or_none : {A : Type 0} → (A → Value) → Option A → Value
or_none write None = Null
or_none write (Some x) = write x

abbrev pub number : ℕ → Value
number n = Int (pos n)

-- numbers of one octet, of two and of four
abbrev pub IsOctet : ℕ → Type 0
IsOctet n = n < 256

abbrev pub IsShort : ℕ → Type 0
IsShort n = n < 65536

abbrev pub IsWord : ℕ → Type 0
IsWord n = n < 2 ^ 32

-- a word of a few: the first that the text is
abbrev pub is_word : List ℕ → List ℕ → Bool
is_word word text = bytes_eq text word
