-- The groups that the owner discarded.
use Rattle.std.specs.Prelude.{[], ◌∷◌, encode_utf8_all, refl}
use Rattle.sqlite.specs.declared.types.Value.TheVariants.{Text, Blob}
use Rattle.sqlite_value.specs.Order.{column}
use Rattle.sqlite.specs.Listing.{understood}
use Rattle.sqlite_tied.specs.Compute.{everything}
use Rattle.sms_store_sql.specs.listing.Columns.{IsWord, number, number_in, octets_in}
use Rattle.sms_store_sql.specs.listing.Listing.{ListOf, IsList}
use Rattle.sms_store_sql.proofs.listing.Columns.{one_found, cast_int}
use Rattle.sms_store_tables.specs.handset.HandsetSchema.{handset_schema, mark_plan}
use Rattle.sms_store_tables.specs.handset.Types.{DiscardedGroup}
use Rattle.sms_base.specs.AddressKind.{type_number}
use Rattle.sms_store_tables.specs.handset.Groups.{IsStoredGroup, reference_bits, reference_number, group_in, group_back}
use Rattle.sms_store_sql.specs.tabled.Tabled.{Computes, IsReadBack, computed, rows_by_one, tabled}
use Rattle.sms_store_sql.proofs.tabled.Listed.{listed}

-- a mark with its numbers in their ranges
pub record IsStoredMark (m : DiscardedGroup) : Type 0 where
  pub number : IsWord m.number
  pub group : IsStoredGroup m.group

abbrev pub mark_list : ListOf DiscardedGroup
mark_list =
    rows_by_one DiscardedGroup (tabled handset_schema 4 8 mark_plan) (λ x. x.number)
    (λ m. number m.number ∷ number (type_number m.group.source.ton) ∷ number m.group.source.npi ∷ Text (encode_utf8_all m.group.source.digits)
    ∷ number (reference_bits m.group.reference) ∷ number (reference_number m.group.reference) ∷ number m.group.total ∷ Blob m.seen ∷ [])
    (λ row. record {
      number = number_in (column row 0);
      group = group_in (column row 1) (column row 2) (column row 3) (column row 4) (column row 5) (column row 6);
      seen = octets_in (column row 7);
    })
    IsStoredMark

-- ---- what the rows are

reads_back : IsReadBack mark_list
reads_back x fits = let g = group_back x.group fits.group.source.digits.are in λ i. record { number = x.number; group = g i; seen = x.seen }

computes : Computes mark_list
unfolding understood everything
computes = (
  computed mark_list.table refl (refl, (refl, refl)) (refl, (refl, refl)) (refl, (refl, refl)) (refl, (refl, refl)) refl (λ d. refl) (λ k o n. refl) refl,
  λ x id new y. refl,
)

pub mark_is_list : IsList mark_list
mark_is_list =
    listed mark_list computes (λ x. refl) (λ id x. refl) (λ x id y. refl)
    (λ x. (cast_int _, (cast_int _, (cast_int _, (refl, (cast_int _, (cast_int _, (cast_int _, (refl, tt)))))))))
    (λ n id x fits. one_found x.number n) (λ x id y fits suits. one_found y.number x.number)
    reads_back
