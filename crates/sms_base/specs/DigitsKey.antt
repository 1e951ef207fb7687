-- The number by which digits are kept: to the base 16, each digit one more than its semi-octet, so that none counts as nothing.
use Rattle.std.specs.Prelude.{ℕ, zero, suc, ◌+◌, ◌-◌, ◌*◌, ◌/◌, ◌%◌, ◌==◌, List, [], ◌∷◌, Option, Some, None, if◌then◌else◌}
use Rattle.sms_base.specs.SemiOctet.{digit_of, semi_octet_of}

-- 1 to 15, and 0 for what is no digit
abbrev pub semi_octet_code : Option ℕ → ℕ
semi_octet_code None = 0
semi_octet_code (Some semi_octet) = semi_octet + 1

abbrev pub digit_code : ℕ → ℕ
digit_code character = semi_octet_code (semi_octet_of character)

abbrev pub digits_from : ℕ → List ℕ → ℕ
digits_from n [] = n
digits_from n (digit ∷ digits) = digits_from (16 * n + digit_code digit) digits

-- digits: the shorter ones first, and those of one length as they are ordered
abbrev pub digits_key : List ℕ → ℕ
digits_key digits = digits_from 0 digits

-- ---- back again, so many digits at most

-- behind a key that of the digits of another one, the last of them first
abbrev pub turned_onto : ℕ → ℕ → ℕ → ℕ
turned_onto zero key onto = onto
turned_onto (suc n) key onto = if key == 0 then onto else turned_onto n (key / 16) (16 * onto + key % 16)

-- the digits of a key, the last one first
abbrev pub last_first : ℕ → ℕ → List ℕ
last_first zero key = []
last_first (suc n) key = if key == 0 then [] else digit_of (key % 16 - 1) ∷ last_first n (key / 16)

-- the digits of a key
unfoldable pub spelled : ℕ → List ℕ
spelled key = last_first 20 (turned_onto 20 key 0)
