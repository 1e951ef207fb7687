-- The reference of a long message in two columns.
use Rattle.std.specs.Prelude.{◌≡◌, ℕ, nat_eq, if◌then◌else◌, refl}
use Rattle.sqlite.specs.declared.types.Value.{Value}
use Rattle.sms_alphabet.specs.declared.concat_key.ConcatReference.{ConcatReference}
use Rattle.sms_alphabet.specs.declared.concat_key.ConcatReference.TheVariants.{EightBit, SixteenBit}
use Rattle.sms_store_sql.specs.listing.Columns.{IsOctet, IsShort, number, number_in}

-- how many bits the reference has: 8 (3GPP TS 23.040 9.2.3.24.1) or 16 (9.2.3.24.8)
abbrev pub reference_bits : ConcatReference → ℕ
reference_bits (EightBit r) = 8
reference_bits (SixteenBit r) = 16

abbrev pub reference_number : ConcatReference → ℕ
reference_number (EightBit r) = r
reference_number (SixteenBit r) = r

abbrev pub reference_in : Value → Value → ConcatReference
reference_in bits reference = if nat_eq (number_in bits) 8 then EightBit (number_in reference) else SixteenBit (number_in reference)

-- a reference in its range
abbrev pub IsStoredReference : ConcatReference → Type 0
IsStoredReference (EightBit r) = IsOctet r
IsStoredReference (SixteenBit r) = IsShort r

pub reference_back : (r : ConcatReference) → reference_in (number (reference_bits r)) (number (reference_number r)) ≡ r
reference_back (EightBit r) = refl
reference_back (SixteenBit r) = refl
