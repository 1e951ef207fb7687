-- The handsets that were given a reference, in the order of first mention.
use Rattle.std.specs.Prelude.{[], ◌∷◌, encode_utf8_all, refl}
use Rattle.sqlite.specs.declared.types.Value.TheVariants.{Text}
use Rattle.sqlite_value.specs.Order.{column}
use Rattle.sqlite.specs.Listing.{understood}
use Rattle.sms_base.specs.Msisdn.{IsMsisdn}
use Rattle.sqlite_tied.specs.Compute.{everything}
use Rattle.sms_store_sql.specs.listing.Columns.{IsOctet, IsWord, number, number_in, characters_in}
use Rattle.sms_store_sql.specs.listing.Listing.{ListOf, IsList}
use Rattle.sms_store_sql.proofs.listing.Columns.{one_found, cast_int, characters_back, digits_spelled}
use Rattle.sms_store_tables.specs.centre.CentreSchema.{centre_schema, handset_plan}
use Rattle.sms_store_tables.specs.centre.Types.{HandsetRow}
use Rattle.sms_store_sql.specs.tabled.Tabled.{Computes, IsReadBack, computed, rows_by_one, tabled}
use Rattle.sms_store_sql.proofs.tabled.Listed.{listed}

-- a handset with its numbers in their ranges
pub record IsStoredHandset (h : HandsetRow) : Type 0 where
  pub place : IsWord h.place
  pub number : IsMsisdn h.number
  pub last_reference : IsOctet h.last_reference

abbrev pub handset_list : ListOf HandsetRow
handset_list =
    rows_by_one HandsetRow (tabled centre_schema 4 8 handset_plan) (λ x. x.place)
    (λ h. number h.place ∷ Text (encode_utf8_all h.number) ∷ number h.last_reference ∷ [])
    (λ row. record { place = number_in (column row 0); number = characters_in (column row 1); last_reference = number_in (column row 2) })
    IsStoredHandset

-- ---- what the rows are

reads_back : IsReadBack handset_list
reads_back x fits = let d = characters_back x.number (digits_spelled x.number fits.number.each) in λ i. record { place = x.place; number = d i; last_reference = x.last_reference }

computes : Computes handset_list
unfolding understood everything
computes = (
  computed handset_list.table refl (refl, (refl, refl)) (refl, (refl, refl)) (refl, (refl, refl)) (refl, (refl, refl)) refl (λ d. refl) (λ k o n. refl) refl,
  λ x id new y. refl,
)

pub handset_is_list : IsList handset_list
handset_is_list =
    listed handset_list computes (λ x. refl) (λ id x. refl) (λ x id y. refl)
    (λ x. (cast_int _, (refl, (cast_int _, tt))))
    (λ n id x fits. one_found x.place n) (λ x id y fits suits. one_found y.place x.place)
    reads_back
