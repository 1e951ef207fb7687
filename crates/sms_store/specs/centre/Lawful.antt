-- What a centre's stores owe.
use Rattle.std.specs.Prelude.{◌≡◌, [], ◌∷◌, length, refl}
use Rattle.std.proofs.Common.{inl, inr, sym, ap, subst, ◌∙◌}
use Rattle.sqlite.specs.Effect.{Database}
use Rattle.sqlite.specs.Schema.{Schema}
use Rattle.sqlite.specs.Tree.{Trees}
use Rattle.sms_store_sql.specs.listing.Listing.{Represents}
use Rattle.sms_store_sql.specs.listing.Transaction.{IsOfOne}
use Rattle.sms_store_sql.specs.schema.Blank.{no_tables}
use Rattle.sms_store_sql.proofs.listing.Once.{holds_once}
use Rattle.sms_store_tables.specs.centre.CentreSchema.{centre_schema, first_schema, first_schema_is, schema_is, second_schema, second_schema_is}
use Rattle.sms_store_tables.specs.centre.BarList.{bar_is_list, bar_list}
use Rattle.sms_store_tables.specs.centre.MetaList.{meta_list}
use Rattle.sms_store_tables.specs.centre.MessageList.{message_list, message_is_list}
use Rattle.sms_store_tables.specs.centre.PartList.{part_list, part_is_list}
use Rattle.sms_store_tables.specs.centre.ReferenceList.{reference_list, reference_is_list}
use Rattle.sms_store_tables.specs.centre.HandsetList.{handset_list, handset_is_list}
use Rattle.sms_store_tables.specs.centre.ReportList.{report_list, report_is_list}
use Rattle.sms_store_tables.specs.centre.PriorityList.{priority_list, priority_is_list}
use Rattle.sms_store_migration.specs.Versions.{IsStore, centre_meta}
use Rattle.sms_store.specs.keeping.Counted.{some_is_not_none}
use Rattle.sms_store.specs.keeping.Stores.{AreStores, IsStoreWith}
use Rattle.sms_store.specs.centre.CentreRows.{IsEarlier, centre_stores}
use Rattle.sms_store.specs.centre.Types.{Rows, Setup}

-- a database is the store of one set of rows
pub store_once : (setup : Setup) → IsOfOne (IsStoreWith centre_stores setup)
store_once setup a b r s same p q =
    let messages = holds_once message_list message_is_list _ _ r.messages s.messages (ap (λ (t : Trees). t 2) same) p.0.messages q.0.messages in
    let parts = holds_once part_list part_is_list _ _ r.parts s.parts (ap (λ (t : Trees). t 4) same) p.0.parts q.0.parts in
    let references = holds_once reference_list reference_is_list _ _ r.references s.references (ap (λ (t : Trees). t 6) same) p.0.references q.0.references in
    let handsets = holds_once handset_list handset_is_list _ _ r.handsets s.handsets (ap (λ (t : Trees). t 8) same) p.0.handsets q.0.handsets in
    let reports = holds_once report_list report_is_list _ _ r.reports s.reports (ap (λ (t : Trees). t 10) same) p.0.reports q.0.reports in
    let priorities = holds_once priority_list priority_is_list _ _ r.priorities s.priorities (ap (λ (t : Trees). t 12) same) p.0.priorities q.0.priorities in
    let bars = holds_once bar_list bar_is_list _ _ r.bars s.bars (ap (λ (t : Trees). t 15) same) p.0.bars q.0.bars in
    let set = p.1 ∙ sym q.1 in
    λ i. record {
      messages = messages i;
      parts = parts i;
      references = references i;
      handsets = handsets i;
      reports = reports i;
      priorities = priorities i;
      bars = bars i;
      setup = set i;
    }

some_tables : length centre_schema.tables ≡ 0 → ⊥
some_tables none =
    let count : 8 ≡ 0 = sym (ap (λ (s : Schema). length s.tables) schema_is) ∙ none in
    some_is_not_none 7 count

-- a store by its trees
by_trees : (db other : Database) (rows : Rows) (setup : Setup) → other.schema ≡ centre_schema → other.trees ≡ db.trees → IsStore db rows
    → IsStoreWith centre_stores setup other (record rows { setup = setup })
by_trees db other rows setup ours same is = (
  record {
    schema = ours;
    meta = subst (λ (trees : Trees). Represents meta_list (trees 0) (centre_meta ∷ [])) (sym same) is.meta;
    messages = subst (λ (trees : Trees). Represents message_list (trees 2) rows.messages) (sym same) is.messages;
    parts = subst (λ (trees : Trees). Represents part_list (trees 4) rows.parts) (sym same) is.parts;
    references = subst (λ (trees : Trees). Represents reference_list (trees 6) rows.references) (sym same) is.references;
    handsets = subst (λ (trees : Trees). Represents handset_list (trees 8) rows.handsets) (sym same) is.handsets;
    reports = subst (λ (trees : Trees). Represents report_list (trees 10) rows.reports) (sym same) is.reports;
    priorities = subst (λ (trees : Trees). Represents priority_list (trees 12) rows.priorities) (sym same) is.priorities;
    bars = subst (λ (trees : Trees). Represents bar_list (trees 15) rows.bars) (sym same) is.bars;
  },
  refl,
)

pub first_differs : no_tables ≡ first_schema → ⊥
first_differs same =
    let count : 6 ≡ 0 = sym (ap (λ (s : Schema). length s.tables) (same ∙ first_schema_is)) in
    some_is_not_none 5 count

pub second_differs : no_tables ≡ second_schema → ⊥
second_differs same =
    let count : 7 ≡ 0 = sym (ap (λ (s : Schema). length s.tables) (same ∙ second_schema_is)) in
    some_is_not_none 6 count

earlier_some : (db : Database) (rows : Rows) → IsEarlier db rows → db.schema ≡ no_tables → ⊥
earlier_some db rows (inl first) none = first_differs (sym none ∙ first.1.0.schema)
earlier_some db rows (inr second) none = second_differs (sym none ∙ second.schema)

pub centre_lawful : AreStores centre_stores
centre_lawful = record {
  tables = λ db rows is. is.schema;
  earlier_tables = earlier_some;
  some_tables = some_tables;
  our_tables = λ db says. says.tables;
  by_trees = by_trees;
  once = store_once;
  first_setup = λ setup. refl;
}
