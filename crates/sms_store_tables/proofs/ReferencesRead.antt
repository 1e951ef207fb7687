-- A reference that is written in two columns has each as its reader wants it.
use Rattle.std.proofs.Common.{◌≡◌, ℕ, true, false, nat_eq, arith}
use Rattle.sqlite.specs.Order.{Row}
use Rattle.sms_store_sql.specs.listing.Columns.{IsOctet, IsShort, number}
use Rattle.sms_store_sql.specs.listing.Reading.{HasAt}
use Rattle.sms_alphabet.specs.declared.concat_key.ConcatReference.{ConcatReference}
use Rattle.sms_alphabet.specs.declared.concat_key.ConcatReference.TheVariants.{EightBit, SixteenBit}
use Rattle.sms_store_tables.specs.References.{IsStoredReference, reference_bits, reference_number}

pub bits_octet : (r : ConcatReference) → IsOctet (reference_bits r)
bits_octet (EightBit r) = omega arith
bits_octet (SixteenBit r) = omega arith

module _ (row : Row) (at : ℕ) where
  pub narrow : (r : ConcatReference) → nat_eq (reference_bits r) 8 ≡ true → IsStoredReference r → HasAt row at (number (reference_number r))
      → (n : ℕ) × IsOctet n × HasAt row at (number n)
  narrow (EightBit r) eight stored has = (r, stored, has)
  narrow (SixteenBit r) eight stored has = absurd cc

  pub wide : (r : ConcatReference) → nat_eq (reference_bits r) 8 ≡ false → IsStoredReference r → HasAt row at (number (reference_number r))
      → (n : ℕ) × IsShort n × HasAt row at (number n)
  wide (EightBit r) other stored has = absurd cc
  wide (SixteenBit r) other stored has = (r, stored, has)
