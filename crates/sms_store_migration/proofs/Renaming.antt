-- What a whole migration makes of a store of an earlier version.
use Rattle.std.proofs.Common.{◌≡◌, ◌⊎◌, inl, inr, ℕ, IsTrue, List, [], ◌∷◌, refl, sym, ap, subst, ◌∙◌}
use Rattle.std.proofs.lemmas.List.Sorted.{IsPermutation-refl}
use Rattle.sqlite.specs.Effect.{Database}
use Rattle.sqlite.specs.Order.{Row}
use Rattle.sqlite.specs.Schema.{Schema}
use Rattle.sqlite.specs.State.{State}
use Rattle.sqlite.specs.Tree.{Trees}
use Rattle.sms_rows.specs.table.Table.{put, without}
use Rattle.sms_rows.proofs.table.Tables.{without_here}
use Rattle.sms_store_sql.specs.listing.Inside.{Alters}
use Rattle.sms_store_sql.specs.listing.Listing.{ListOf, Represents}
use Rattle.sms_store_sql.specs.listing.Transaction.{Leaves, IsOpenStore}
use Rattle.sms_store_tables.specs.centre.BarList.{bar_list}
use Rattle.sms_store_tables.specs.centre.MetaList.{meta_list}
use Rattle.sms_store_tables.specs.centre.CentreSchema.{first_schema, second_schema}
use Rattle.sms_store_sql.specs.tabled.MetaTable.{meta_list_in}
use Rattle.sms_store_tables.specs.centre.MessageList.{message_list}
use Rattle.sms_store_tables.specs.centre.PartList.{part_list}
use Rattle.sms_store_tables.specs.centre.ReferenceList.{reference_list}
use Rattle.sms_store_tables.specs.centre.HandsetList.{handset_list}
use Rattle.sms_store_tables.specs.centre.ReportList.{report_list}
use Rattle.sms_store_tables.specs.centre.PriorityList.{priority_list}
use Rattle.sms_store_tables.specs.centre.Completing.{Completes, MakesBars}
use Rattle.sms_store_migration.specs.Migrating.{Ranks, Renames, Migrates, MigratesSecond}
use Rattle.sms_store_migration.specs.Versions.{AreStore, IsStore, centre_meta, first_meta, meta_of, second_meta}
use Rattle.sms_store_migration.specs.Types.{BarRow, Rows, Meta}
use Rattle.sms_store_migration.proofs.Apart.{stays}

-- what a list holds it holds in the same rows
moved : {X : Type 0} (l : ListOf X) (rows others : List Row) (xs : List X) → others ≡ rows → Represents l rows xs → Represents l others xs
moved l rows others xs same held = subst (λ rs. Represents l rs xs) (sym same) held

-- a tree without rows has no bars
no_bars : (rows : Rows) (tree : List Row) → tree ≡ [] → rows.bars ≡ [] → Represents bar_list tree rows.bars
no_bars rows tree none e =
    subst (λ (bs : List BarRow). Represents bar_list tree bs) (sym e)
    (record { entries = []; keyed = tt; stored = none; listed = IsPermutation-refl []; rises = tt; fit = tt })

-- the row of the store is the same in all versions
said_now : (tables : Schema) (rows : List Row) (said : List Meta) → Represents (meta_list_in tables) rows said → Represents meta_list rows said
said_now tables rows said h = record { entries = h.entries; keyed = h.keyed; stored = h.stored; listed = h.listed; rises = h.rises; fit = h.fit }

pub renames : (version : ℕ) (a b c : State) → Alters meta_list (without meta_list.key version) a b → Alters meta_list (put meta_list.key centre_meta) b c → Renames version a.now c.now
renames version a b c p q has held =
    let mid = p.schema has in
    let none : without meta_list.key version (meta_of version ∷ []) ≡ [] = without_here meta_list.key version (meta_of version) [] refl in
    record {
      schema = q.schema mid;
      meta = q.changed mid [] (subst (λ (said : List Meta). Represents meta_list (b.now.trees 0) said) none (p.changed has (meta_of version ∷ []) held));
      others = λ tree apart free. q.others mid tree apart free ∙ p.others has tree apart free;
    }

-- the three steps from version 1, one after another
pub migrates : (a b c d : Database) → Completes a b → Ranks b c → Renames 1 c d → Migrates a d
migrates a b c d p q r rows is =
    let made = p is.schema in
    let ranked = q made.schema made.ranks rows.messages (moved message_list (a.trees 2) (b.trees 2) rows.messages made.others.1.0 is.messages) in
    let by_rank = stays 12 b c ranked.others in
    let named = r ranked.schema (moved meta_list (a.trees 0) (c.trees 0) (first_meta ∷ []) (by_rank 0 refl ∙ made.others.0) (said_now first_schema _ _ is.meta)) in
    let by_name = stays 0 c d named.others in
    record {
      schema = named.schema;
      meta = named.meta;
      messages = moved message_list (a.trees 2) (d.trees 2) rows.messages (by_name 2 refl ∙ by_rank 2 refl ∙ made.others.1.0) is.messages;
      parts = moved part_list (a.trees 4) (d.trees 4) rows.parts (by_name 4 refl ∙ by_rank 4 refl ∙ made.others.1.1.0) is.parts;
      references = moved reference_list (a.trees 6) (d.trees 6) rows.references (by_name 6 refl ∙ by_rank 6 refl ∙ made.others.1.1.1.0) is.references;
      handsets = moved handset_list (a.trees 8) (d.trees 8) rows.handsets (by_name 8 refl ∙ by_rank 8 refl ∙ made.others.1.1.1.1.0) is.handsets;
      reports = moved report_list (a.trees 10) (d.trees 10) rows.reports (by_name 10 refl ∙ by_rank 10 refl ∙ made.others.1.1.1.1.1.0) is.reports;
      priorities = moved priority_list (c.trees 12) (d.trees 12) _ (by_name 12 refl) ranked.priorities;
      bars = no_bars rows (d.trees 15) (by_name 15 refl ∙ by_rank 15 refl ∙ made.bars) is.bars;
    }

-- the two steps from version 2
pub migrates_second : (a b c : Database) → MakesBars a b → Renames 2 b c → MigratesSecond a c
migrates_second a b c p r rows is =
    let made = p is.schema in
    let named = r made.schema (moved meta_list (a.trees 0) (b.trees 0) (second_meta ∷ []) made.others.0 (said_now second_schema _ _ is.meta)) in
    let by_name = stays 0 b c named.others in
    record {
      schema = named.schema;
      meta = named.meta;
      messages = moved message_list (a.trees 2) (c.trees 2) rows.messages (by_name 2 refl ∙ made.others.1.0) is.messages;
      parts = moved part_list (a.trees 4) (c.trees 4) rows.parts (by_name 4 refl ∙ made.others.1.1.0) is.parts;
      references = moved reference_list (a.trees 6) (c.trees 6) rows.references (by_name 6 refl ∙ made.others.1.1.1.0) is.references;
      handsets = moved handset_list (a.trees 8) (c.trees 8) rows.handsets (by_name 8 refl ∙ made.others.1.1.1.1.0) is.handsets;
      reports = moved report_list (a.trees 10) (c.trees 10) rows.reports (by_name 10 refl ∙ made.others.1.1.1.1.1.0) is.reports;
      priorities = moved priority_list (a.trees 12) (c.trees 12) rows.priorities (by_name 12 refl ∙ made.others.1.1.1.1.1.1.0) is.priorities;
      bars = no_bars rows (c.trees 15) (by_name 15 refl ∙ made.empty) is.bars;
    }

-- a stop inside leaves the trees as they were, or those of the store of version 3
pub stop_raises : (P : Database → Rows → Type 0) (Q : Database → Database → Type 0) (f : Rows → Rows) → ((a b : Database) → Q a b → (rows : Rows) → P a rows → IsStore b (f rows))
    → (old new : State) (rows : Rows) (left : Trees) → IsOpenStore P old rows → ((db : Trees) → IsTrue old.is_open → old.may_leave db → db ≡ old.committed.trees)
    → ((db : Trees) → new.may_leave db → old.may_leave db ⊎ (IsTrue old.is_open → Leaves Q old db)) → new.may_leave left → (left ≡ old.now.trees) ⊎ AreStore left (f rows)
stop_raises P Q f leads old new rows left kept settled leaves may = elim (leaves left may) [
  | inl earlier ↦ inl (settled left kept.is_open earlier ∙ sym (ap (λ (d : Database). d.trees) kept.settled))
  | inr made ↦ let after_it = made kept.is_open in inr (after_it.0, after_it.1, leads _ _ after_it.2 rows kept.store)
]
