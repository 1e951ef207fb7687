-- The references that were given.
use Rattle.std.specs.Prelude.{[], ◌∷◌, refl}
use Rattle.sqlite_value.specs.Order.{column}
use Rattle.sqlite.specs.Listing.{understood}
use Rattle.sqlite_tied.specs.Compute.{everything}
use Rattle.sms_base.specs.TimeStamp.{IsMoment}
use Rattle.sms_store_sql.specs.listing.Columns.{IsOctet, IsWord, number, number_in}
use Rattle.sms_store_sql.specs.listing.Listing.{ListOf, IsList}
use Rattle.sms_store_sql.proofs.listing.Columns.{cast_int}
use Rattle.sms_store_tables.specs.centre.CentreSchema.{centre_schema, reference_plan}
use Rattle.sms_store_tables.specs.centre.Types.{ReferenceRow}
use Rattle.sms_rows.specs.table.Keys.{pair_key}
use Rattle.sms_store_sql.specs.tabled.Tabled.{Computes, computed, rows_by_two, tabled}
use Rattle.sms_store_sql.proofs.tabled.Listed.{listed}
use Rattle.sms_store_sql.proofs.tabled.TwoColumns.{two_found, two_meet}

-- a reference with its numbers in their ranges
pub record IsStoredReference (r : ReferenceRow) : Type 0 where
  pub place : IsWord r.place
  pub reference : IsOctet r.reference
  pub last : IsMoment r.last

abbrev pub reference_list : ListOf ReferenceRow
reference_list =
    rows_by_two ReferenceRow (tabled centre_schema 3 6 reference_plan) (λ x. pair_key x.place x.reference)
    (λ r. number r.place ∷ number r.reference ∷ number r.last ∷ [])
    (λ row. record { place = number_in (column row 0); reference = number_in (column row 1); last = number_in (column row 2) })
    IsStoredReference

-- ---- what the rows are

computes : Computes reference_list
unfolding understood everything
computes = (
  computed reference_list.table refl (refl, (refl, refl)) (refl, (refl, refl)) (refl, (refl, refl)) (refl, (refl, refl)) refl (λ d. refl) (λ k o n. refl) refl,
  λ x id new y. refl,
)

pub reference_is_list : IsList reference_list
reference_is_list =
    listed reference_list computes (λ x. refl) (λ id x. refl) (λ x id y. refl)
    (λ x. (cast_int _, (cast_int _, (cast_int _, tt))))
    (λ n id x fits. two_found x.place x.reference n fits.reference)
    (λ x id y fits suits. two_meet y.place y.reference x.place x.reference suits.reference fits.reference)
    (λ x fits. refl)
