-- The priorities of messages.
use Rattle.std.specs.Prelude.{[], ◌∷◌, refl}
use Rattle.sqlite_value.specs.Order.{column}
use Rattle.sqlite.specs.Listing.{understood}
use Rattle.sqlite_tied.specs.Compute.{everything}
use Rattle.sms_base.specs.MessageId.{IsMessageId}
use Rattle.sms_store_sql.specs.listing.Columns.{IsOctet, number, number_in}
use Rattle.sms_store_sql.specs.listing.Listing.{ListOf, IsList}
use Rattle.sms_store_sql.proofs.listing.Columns.{one_found, cast_int}
use Rattle.sms_store_tables.specs.centre.CentreSchema.{centre_schema, priority_plan}
use Rattle.sms_store_tables.specs.centre.Types.{PriorityRow}
use Rattle.sms_store_sql.specs.tabled.Tabled.{Computes, computed, rows_by_one, tabled}
use Rattle.sms_store_sql.proofs.tabled.Listed.{listed}

-- a priority with its numbers in their ranges
pub record IsStoredPriority (p : PriorityRow) : Type 0 where
  pub id : IsMessageId p.id
  pub priority : IsOctet p.priority

abbrev pub priority_list : ListOf PriorityRow
priority_list =
    rows_by_one PriorityRow (tabled centre_schema 6 12 priority_plan) (λ x. x.id)
    (λ p. number p.id ∷ number p.priority ∷ [])
    (λ row. record { id = number_in (column row 0); priority = number_in (column row 1) })
    IsStoredPriority

-- ---- what the rows are

computes : Computes priority_list
unfolding understood everything
computes = (
  computed priority_list.table refl (refl, (refl, refl)) (refl, (refl, refl)) (refl, (refl, refl)) (refl, (refl, refl)) refl (λ d. refl) (λ k o n. refl) refl,
  λ x id new y. refl,
)

pub priority_is_list : IsList priority_list
priority_is_list =
    listed priority_list computes (λ x. refl) (λ id x. refl) (λ x id y. refl)
    (λ x. (cast_int _, (cast_int _, tt)))
    (λ n id x fits. one_found x.id n) (λ x id y fits suits. one_found y.id x.id)
    (λ x fits. refl)
