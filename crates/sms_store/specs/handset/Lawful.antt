-- What a handset's stores owe.
use Rattle.std.specs.Prelude.{◌≡◌, List, [], ◌∷◌, length, refl}
use Rattle.std.proofs.Common.{sym, ap, subst, ◌∙◌}
use Rattle.sqlite.specs.Effect.{Database}
use Rattle.sqlite.specs.Schema.{Schema}
use Rattle.sqlite.specs.Tree.{Trees}
use Rattle.sms_store_sql.specs.listing.Listing.{Represents}
use Rattle.sms_store_sql.specs.listing.Transaction.{IsOfOne}
use Rattle.sms_store_sql.proofs.listing.Once.{holds_once}
use Rattle.sms_store_tables.specs.handset.HandsetSchema.{handset_schema, schema_is}
use Rattle.sms_store_tables.specs.handset.MetaList.{meta_list}
use Rattle.sms_store_tables.specs.handset.EntryList.{entry_list, entry_is_list}
use Rattle.sms_store_tables.specs.handset.LastAcceptedList.{last_list, last_is_list}
use Rattle.sms_store_tables.specs.handset.OutEntryList.{out_list, out_is_list}
use Rattle.sms_store_tables.specs.handset.DiscardedGroupList.{mark_list, mark_is_list}
use Rattle.sms_store.specs.keeping.Counted.{some_is_not_none}
use Rattle.sms_store.specs.keeping.Stores.{AreStores, IsStoreWith}
use Rattle.sms_store.specs.handset.CountersList.{count_list, count_is_list}
use Rattle.sms_store.specs.handset.HandsetRows.{IsStore, handset_stores, handset_meta, counters_row}
use Rattle.sms_store.specs.handset.Types.{Rows, Setup, Counters, CountersRow}

-- a database is the store of one set of rows
pub store_once : (setup : Setup) → IsOfOne (IsStoreWith handset_stores setup)
store_once setup a b r s same p q =
    let entries = holds_once entry_list entry_is_list _ _ r.entries s.entries (ap (λ (t : Trees). t 2) same) p.0.entries q.0.entries in
    let last = holds_once last_list last_is_list _ _ r.last s.last (ap (λ (t : Trees). t 4) same) p.0.last q.0.last in
    let outbox = holds_once out_list out_is_list _ _ r.outbox s.outbox (ap (λ (t : Trees). t 6) same) p.0.outbox q.0.outbox in
    let marks = holds_once mark_list mark_is_list _ _ r.marks s.marks (ap (λ (t : Trees). t 8) same) p.0.marks q.0.marks in
    let counted = holds_once count_list count_is_list _ _ (counters_row r.counters ∷ []) (counters_row s.counters ∷ [])
    (ap (λ (t : Trees). t 10) same) p.0.counters q.0.counters in
    let counters : r.counters ≡ s.counters = ap counted_in counted in
    let set = p.1 ∙ sym q.1 in
    λ i. record { entries = entries i; last = last i; outbox = outbox i; marks = marks i; counters = counters i; setup = set i }
  where
    counted_in : List CountersRow → Counters
    counted_in [] = r.counters
    counted_in (c ∷ cs) = c.counters

some_tables : length handset_schema.tables ≡ 0 → ⊥
some_tables none =
    let count : 6 ≡ 0 = sym (ap (λ (s : Schema). length s.tables) schema_is) ∙ none in
    some_is_not_none 5 count

-- a store by its trees
by_trees : (db other : Database) (rows : Rows) (setup : Setup) → other.schema ≡ handset_schema → other.trees ≡ db.trees → IsStore db rows
    → IsStoreWith handset_stores setup other (record rows { setup = setup })
by_trees db other rows setup ours same is = (
  record {
    schema = ours;
    meta = subst (λ (trees : Trees). Represents meta_list (trees 0) (handset_meta ∷ [])) (sym same) is.meta;
    entries = subst (λ (trees : Trees). Represents entry_list (trees 2) rows.entries) (sym same) is.entries;
    last = subst (λ (trees : Trees). Represents last_list (trees 4) rows.last) (sym same) is.last;
    outbox = subst (λ (trees : Trees). Represents out_list (trees 6) rows.outbox) (sym same) is.outbox;
    marks = subst (λ (trees : Trees). Represents mark_list (trees 8) rows.marks) (sym same) is.marks;
    counters = subst (λ (trees : Trees). Represents count_list (trees 10) (counters_row rows.counters ∷ [])) (sym same) is.counters;
  },
  refl,
)

pub handset_lawful : AreStores handset_stores
handset_lawful = record {
  tables = λ db rows is. is.schema;
  earlier_tables = λ db rows none. absurd none;
  some_tables = some_tables;
  our_tables = λ db says. says.tables;
  by_trees = by_trees;
  once = store_once;
  first_setup = λ setup. refl;
}
