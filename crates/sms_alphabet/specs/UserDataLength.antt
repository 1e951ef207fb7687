-- How long the user data of a short message may be (3GPP TS 23.040 9.2.3.16). Then how much of it a header takes in front
-- of septets (9.2.3.24). Septets begin at the next septet boundary behind it.
use Rattle.std.specs.Prelude.{ℕ, ◌+◌, ◌-◌, ◌*◌, ◌/◌}
use Rattle.sms_alphabet.specs.declared.scheme.Coding.{Coding}
use Rattle.sms_alphabet.specs.declared.scheme.Coding.TheVariants.{Septets, Octets, Ucs2, Compressed}

-- the greatest length, header included: septets of the default alphabet, else octets
abbrev pub greatest_length : Coding → ℕ
greatest_length Septets = 160
greatest_length Octets = 140
greatest_length Ucs2 = 140
greatest_length Compressed = 140

-- how many septets a header of so many octets takes, up to the next septet boundary
abbrev pub header_septets : ℕ → ℕ
header_septets octets = (8 * octets + 6) / 7

-- the bits between the header and that boundary
abbrev pub fill_bits : ℕ → ℕ
fill_bits octets = 7 * header_septets octets - 8 * octets
