-- Numbers and moments in text.
use Rattle.std.specs.Prelude.{ℕ, ◌+◌, ◌/◌, ◌%◌, ◌==◌, nat_le, List, [], ◌∷◌, ◌++◌, codes, decimal, get_or, if◌then◌else◌}
use Rattle.sms_base.specs.StampWriting.{stamp_of}

-- the two digits of a pair of semi-octets, the low one first (3GPP TS 23.040 9.1.2.3)
abbrev pub pair : ℕ → List ℕ
pair octet = (48 + octet % 16 % 10) ∷ (48 + octet / 16 % 10) ∷ []

-- the date and the time of a clock, by its pairs of semi-octets (RFC 3339)
unfoldable pub date_text : ℕ → ℕ → ℕ → List ℕ
date_text year month day = codes "20" ++ (pair year ++ (codes "-" ++ (pair month ++ (codes "-" ++ pair day))))

unfoldable pub clock_text : ℕ → ℕ → ℕ → List ℕ
clock_text hour minute second = pair hour ++ (codes ":" ++ (pair minute ++ (codes ":" ++ pair second)))

-- a time stamp at UTC
unfoldable pub stamp_text : List ℕ → List ℕ
stamp_text stamp =
    date_text (get_or stamp 0 0) (get_or stamp 1 0) (get_or stamp 2 0)
    ++ (codes "T" ++ (clock_text (get_or stamp 3 0) (get_or stamp 4 0) (get_or stamp 5 0) ++ codes "Z"))

abbrev pub moment_text : ℕ → List ℕ
moment_text moment = stamp_text (stamp_of moment)

-- the last digit of a number
abbrev pub last_digit : ℕ → List ℕ
last_digit number = (48 + number % 10) ∷ []

-- so many millionths, with six digits behind the point
unfoldable pub millionths_text : ℕ → List ℕ
millionths_text millionths =
    decimal (millionths / 1000000) ++ (codes "." ++ (last_digit (millionths / 100000) ++ (last_digit (millionths / 10000)
    ++ (last_digit (millionths / 1000) ++ (last_digit (millionths / 100) ++ (last_digit (millionths / 10) ++ last_digit millionths))))))

-- so many thousandths of a millisecond, with the tenths behind the point, if there are any
unfoldable pub milliseconds_text : ℕ → List ℕ
milliseconds_text micros =
    decimal (micros / 1000) ++ (if micros / 100 % 10 == 0 then [] else codes "." ++ decimal (micros / 100 % 10))

-- so many octets
unfoldable pub size_text : ℕ → List ℕ
size_text octets =
    if nat_le 10000000 octets then decimal (octets / 1000000) ++ codes " MB"
    else (if nat_le 1000 octets then decimal (octets / 1000) ++ codes " KB" else decimal octets ++ codes " B")
