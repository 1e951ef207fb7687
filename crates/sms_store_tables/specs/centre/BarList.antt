-- The references that stay barred once their messages are forgotten.
use Rattle.std.specs.Prelude.{[], ◌∷◌, encode_utf8_all, refl}
use Rattle.sqlite.specs.declared.types.Value.TheVariants.{Text}
use Rattle.sqlite_value.specs.Order.{column}
use Rattle.sqlite.specs.Listing.{understood}
use Rattle.sqlite_tied.specs.Compute.{everything}
use Rattle.sms_store_sql.specs.listing.Columns.{IsShort, characters_in, flag, flag_in, number, number_in}
use Rattle.sms_store_sql.specs.listing.Listing.{ListOf, IsList}
use Rattle.sms_store_sql.proofs.listing.Columns.{address_back, cast_flag, cast_int, characters_back, digits_spelled, flag_back, one_found}
use Rattle.sms_store_tables.specs.centre.CentreSchema.{bar_plan, centre_schema}
use Rattle.sms_store_tables.specs.centre.Types.{BarRow}
use Rattle.sms_base.specs.AddressKind.{type_number}
use Rattle.sms_base.specs.Msisdn.{IsMsisdn}
use Rattle.sms_store_sql.specs.listing.Addresses.{IsStoredAddress, address_in}
use Rattle.sms_store_sql.specs.tabled.Tabled.{Computes, IsReadBack, computed, rows_by_one, tabled}
use Rattle.sms_store_sql.proofs.tabled.Listed.{listed}

-- a bar with its numbers in their ranges
pub record IsStoredBar (b : BarRow) : Type 0 where
  pub source : IsStoredAddress b.source
  pub handset : IsMsisdn b.handset
  pub reference : IsShort b.reference

abbrev pub bar_list : ListOf BarRow
bar_list =
    rows_by_one BarRow (tabled centre_schema 7 15 bar_plan) (λ x. x.place)
    (λ b. number b.place ∷ number (type_number b.source.ton) ∷ number b.source.npi ∷ Text (encode_utf8_all b.source.digits)
    ∷ Text (encode_utf8_all b.handset) ∷ number b.reference ∷ flag b.is_own ∷ [])
    (λ row. record {
      place = number_in (column row 0);
      source = address_in (column row 1) (column row 2) (column row 3);
      handset = characters_in (column row 4);
      reference = number_in (column row 5);
      is_own = flag_in (column row 6);
    })
    IsStoredBar

-- ---- what the rows are

reads_back : IsReadBack bar_list
reads_back x fits =
    let a = address_back x.source fits.source.digits.are in
    let h = characters_back x.handset (digits_spelled x.handset fits.handset.each) in
    let own = flag_back x.is_own in λ i. record { place = x.place; source = a i; handset = h i; reference = x.reference; is_own = own i }

computes : Computes bar_list
unfolding understood everything
computes = (
  computed bar_list.table refl (refl, (refl, refl)) (refl, (refl, refl)) (refl, (refl, refl)) (refl, (refl, refl)) refl (λ d. refl) (λ k o n. refl) refl,
  λ x id new y. refl,
)

pub bar_is_list : IsList bar_list
bar_is_list =
    listed bar_list computes (λ x. refl) (λ id x. refl) (λ x id y. refl)
    (λ x. (cast_int _, (cast_int _, (cast_int _, (refl, (refl, (cast_int _, (cast_flag x.is_own, tt))))))))
    (λ n id x fits. one_found x.place n) (λ x id y fits suits. one_found y.place x.place)
    reads_back
