-- What was accepted last under each reference.
use Rattle.std.specs.Prelude.{[], ◌∷◌, refl}
use Rattle.sqlite.specs.declared.types.Value.TheVariants.{Blob}
use Rattle.sqlite_value.specs.Order.{column}
use Rattle.sqlite.specs.Listing.{understood}
use Rattle.sqlite_tied.specs.Compute.{everything}
use Rattle.sms_store_sql.specs.listing.Columns.{IsOctet, number, number_in, octets_in}
use Rattle.sms_store_sql.specs.listing.Listing.{ListOf, IsList}
use Rattle.sms_store_sql.proofs.listing.Columns.{one_found, cast_int}
use Rattle.sms_store_tables.specs.handset.HandsetSchema.{handset_schema, last_plan}
use Rattle.sms_store_tables.specs.handset.Types.{LastAccepted}
use Rattle.sms_store_sql.specs.tabled.Tabled.{Computes, computed, rows_by_one, tabled}
use Rattle.sms_store_sql.proofs.tabled.Listed.{listed}

abbrev pub last_list : ListOf LastAccepted
last_list =
    rows_by_one LastAccepted (tabled handset_schema 2 4 last_plan) (λ x. x.reference)
    (λ l. number l.reference ∷ Blob l.tpdu ∷ [])
    (λ row. record { reference = number_in (column row 0); tpdu = octets_in (column row 1) })
    (λ l. IsOctet l.reference)

-- ---- what the rows are

computes : Computes last_list
unfolding understood everything
computes = (
  computed last_list.table refl (refl, (refl, refl)) (refl, (refl, refl)) (refl, (refl, refl)) (refl, (refl, refl)) refl (λ d. refl) (λ k o n. refl) refl,
  λ x id new y. refl,
)

pub last_is_list : IsList last_list
last_is_list =
    listed last_list computes (λ x. refl) (λ id x. refl) (λ x id y. refl)
    (λ x. (cast_int _, (refl, tt)))
    (λ n id x fits. one_found x.reference n) (λ x id y fits suits. one_found y.reference x.reference)
    (λ x fits. refl)
