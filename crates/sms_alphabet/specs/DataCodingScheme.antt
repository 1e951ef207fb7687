-- 3GPP TS 23.038 4: how the content of a message is coded, by its data coding scheme.
use Rattle.std.specs.Prelude.{ℕ, ◌/◌, ◌%◌, nat_lt, ◌==◌, if◌then◌else◌}
use Rattle.sms_alphabet.specs.declared.scheme.Coding.{Coding}
use Rattle.sms_alphabet.specs.declared.scheme.Coding.TheVariants.{Septets, Octets, Ucs2, Compressed}

-- the alphabet that bits 3 and 2 name; 11 is reserved
abbrev pub alphabet_of : ℕ → Coding
alphabet_of bits = if bits == 1 then Octets else (if bits == 2 then Ucs2 else Septets)

-- By the coding group, bits 7 to 4. In the groups 00xx and 01xx bit 5 says that the text is compressed, and
-- bits 3 and 2 name the alphabet. 1110 is UCS2; in 1111 bit 2 is set for octets. The other groups, 1100 and 1101
-- (message waiting) and the reserved 10xx, are the default alphabet, and so is each reserved alphabet.
abbrev pub coding_of : ℕ → Coding
coding_of octet =
    let group = octet / 16 in
    if nat_lt group 8 then (if octet / 32 % 2 == 1 then Compressed else alphabet_of (octet / 4 % 4))
    else (if group == 14 then Ucs2
    else (if group == 15 then (if octet / 4 % 2 == 1 then Octets else Septets)
    else Septets))
