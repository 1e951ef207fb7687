-- What a handset counts: one row, at place 1.
use Rattle.std.specs.Prelude.{[], ◌∷◌, refl}
use Rattle.sqlite_value.specs.Order.{column}
use Rattle.sqlite.specs.Listing.{understood}
use Rattle.sqlite_tied.specs.Compute.{everything}
use Rattle.sms_store_sql.specs.listing.Columns.{IsOctet, IsShort, IsWord, number, number_in, flag, flag_in}
use Rattle.sms_store_sql.specs.listing.Listing.{ListOf, IsList}
use Rattle.sms_store_sql.proofs.listing.Columns.{one_found, cast_int, cast_flag, flag_back}
use Rattle.sms_store_tables.specs.handset.HandsetSchema.{handset_schema, count_plan}
use Rattle.sms_store.specs.handset.Types.{Counters, CountersRow}
use Rattle.sms_store_sql.specs.tabled.Tabled.{Computes, IsReadBack, computed, rows_by_one, tabled}
use Rattle.sms_store_sql.proofs.tabled.Listed.{listed}

-- counters in their ranges
pub record AreStored (c : Counters) : Type 0 where
  pub entry : IsWord c.entry
  pub message_reference : IsOctet c.message_reference
  pub reference : IsOctet c.reference
  pub concat_reference : IsShort c.concat_reference
  pub notice : IsWord c.notice

abbrev pub count_list : ListOf CountersRow
count_list =
    rows_by_one CountersRow (tabled handset_schema 5 10 count_plan) (λ c. 1)
    (λ c. number 1 ∷ number c.counters.entry ∷ number c.counters.message_reference ∷ number c.counters.reference ∷ number c.counters.concat_reference
    ∷ number c.counters.notice ∷ flag c.counters.is_memory_full ∷ [])
    (λ row. record {
      counters =
          record {
            entry = number_in (column row 1);
            message_reference = number_in (column row 2);
            reference = number_in (column row 3);
            concat_reference = number_in (column row 4);
            notice = number_in (column row 5);
            is_memory_full = flag_in (column row 6);
          };
    })
    (λ c. AreStored c.counters)

-- ---- what the rows are

reads_back : IsReadBack count_list
reads_back x fits =
    let f = flag_back x.counters.is_memory_full in λ i. record {
      counters =
          record {
            entry = x.counters.entry;
            message_reference = x.counters.message_reference;
            reference = x.counters.reference;
            concat_reference = x.counters.concat_reference;
            notice = x.counters.notice;
            is_memory_full = f i;
          };
    }

computes : Computes count_list
unfolding understood everything
computes = (
  computed count_list.table refl (refl, (refl, refl)) (refl, (refl, refl)) (refl, (refl, refl)) (refl, (refl, refl)) refl (λ d. refl) (λ k o n. refl) refl,
  λ x id new y. refl,
)

pub count_is_list : IsList count_list
count_is_list =
    listed count_list computes (λ x. refl) (λ id x. refl) (λ x id y. refl)
    (λ x. (cast_int _, (cast_int _, (cast_int _, (cast_int _, (cast_int _, (cast_int _, (cast_flag x.counters.is_memory_full, tt))))))))
    (λ n id x fits. one_found 1 n) (λ x id y fits suits. one_found 1 1)
    reads_back
