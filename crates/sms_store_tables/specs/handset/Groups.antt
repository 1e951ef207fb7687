-- Groups of parts in six columns.
pub use Rattle.sms_store_tables.specs.References.{IsStoredReference, reference_bits, reference_number}
use Rattle.std.specs.Prelude.{◌≡◌, ℕ, ◌+◌, true, encode_utf8_all}
use Rattle.std.specs.Str.{all_scalars}
use Rattle.sqlite.specs.Order.{Row}
use Rattle.sqlite.specs.declared.types.Value.{Value}
use Rattle.sqlite.specs.declared.types.Value.TheVariants.{Text}
use Rattle.sms_base.specs.AddressKind.{type_number}
use Rattle.sms_store_sql.specs.listing.Columns.{IsOctet, number, number_in}
use Rattle.sms_store_sql.specs.listing.Addresses.{IsStoredAddress, address_in}
use Rattle.sms_store_sql.specs.listing.Reading.{HasAt}
use Rattle.sms_store_sql.proofs.listing.Columns.{address_back}
use Rattle.sms_store_tables.specs.References.{reference_back, reference_in}
use Rattle.sms_store_tables.specs.handset.Types.{Group}

-- the source address of the parts, their reference and how many they are
abbrev pub group_in : Value → Value → Value → Value → Value → Value → Group
group_in ton npi text bits reference total = record { source = address_in ton npi text; reference = reference_in bits reference; total = number_in total }

-- a group in its ranges
pub record IsStoredGroup (g : Group) : Type 0 where
  pub source : IsStoredAddress g.source
  pub reference : IsStoredReference g.reference
  pub total : IsOctet g.total

-- the six columns of a group, from this one on
pub record HasGroup (row : Row) (at : ℕ) (g : Group) : Type 0 where
  pub ton : HasAt row at (number (type_number g.source.ton))
  pub npi : HasAt row (at + 1) (number g.source.npi)
  pub text : HasAt row (at + 2) (Text (encode_utf8_all g.source.digits))
  pub bits : HasAt row (at + 3) (number (reference_bits g.reference))
  pub reference : HasAt row (at + 4) (number (reference_number g.reference))
  pub total : HasAt row (at + 5) (number g.total)

-- a group is read as it was written
pub group_back : (g : Group) → all_scalars g.source.digits ≡ true
    → group_in (number (type_number g.source.ton)) (number g.source.npi) (Text (encode_utf8_all g.source.digits)) (number (reference_bits g.reference))
    (number (reference_number g.reference)) (number g.total) ≡ g
group_back g are =
    let a = address_back g.source are in
    let r = reference_back g.reference in
    λ i. record { source = a i; reference = r i; total = g.total }
