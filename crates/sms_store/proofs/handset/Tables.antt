-- What the texts that make the tables lead to.
use Rattle.std.proofs.Common.{◌≡◌, List, [], ◌∷◌, refl, ◌∙◌, false}
use Rattle.sqlite.specs.Effect.{Database}
use Rattle.sqlite.specs.State.{State}
use Rattle.sms_rows.specs.table.Table.{put}
use Rattle.sms_store_sql.specs.schema.Blank.{no_tables}
use Rattle.sms_store_sql.specs.listing.Inside.{Alters, Ran}
use Rattle.sms_store_sql.specs.listing.Listing.{ListOf, Represents}
use Rattle.sms_store_sql.proofs.listing.Apart.{meets}
use Rattle.sms_store_sql.proofs.listing.Making.{makes}
use Rattle.sms_store_tables.specs.handset.HandsetSchema.{with_meta, with_entry, with_last, with_out, with_mark, handset_schema, adds_meta, adds_entry, adds_last, adds_out, adds_mark, adds_count, count_plan, entry_plan, last_plan, mark_plan, out_plan}
use Rattle.sms_store.specs.keeping.Stores.{Founds}
use Rattle.sms_store.specs.handset.HandsetRows.{handset_stores, handset_meta, counters_row}
use Rattle.sms_store.specs.handset.Founding.{MakesFirst, MakesLast, Tabulates, Declares}
use Rattle.sms_store_tables.specs.handset.MetaList.{meta_list}
use Rattle.sms_store_tables.specs.handset.EntryList.{entry_list}
use Rattle.sms_store_tables.specs.handset.LastAcceptedList.{last_list}
use Rattle.sms_store_tables.specs.handset.OutEntryList.{out_list}
use Rattle.sms_store_tables.specs.handset.DiscardedGroupList.{mark_list}
use Rattle.sms_store.specs.handset.CountersList.{count_list}
use Rattle.sms_store.specs.handset.Types.{Counters}
use Rattle.sms_store.proofs.keeping.Lists.{holds_none, other_list}
use Rattle.sms_store_sql.specs.tabled.TablePlan.{made}
use Rattle.sms_store_sql.specs.tabled.Texts.{create_text}
use Rattle.sms_store_sql.specs.tabled.MetaTable.{meta_plan}

abbrev first_counters : Counters
first_counters = record { entry = 1; message_reference = 0; reference = 0; concat_reference = 0; notice = 0; is_memory_full = Rattle.std.proofs.Common.false }

pub first_made : (a b c d : State) → Ran (create_text meta_plan) [] a b → Ran (create_text entry_plan) [] b c → Ran (create_text last_plan) [] c d → MakesFirst a.now d.now
first_made a b c d p q r has =
    let one = makes (create_text meta_plan) (made meta_plan) no_tables with_meta adds_meta a b p has in
    let two = makes (create_text entry_plan) (made entry_plan) with_meta with_entry adds_entry b c q one.schema in
    let three = makes (create_text last_plan) (made last_plan) with_entry with_last adds_last c d r two.schema in
    (three.schema, record { meta = three.others.0 ∙ two.others.0 ∙ one.empty; entries = three.others.1.0 ∙ two.empty; last = three.empty })

pub last_made_too : (a b c d : State) → Ran (create_text out_plan) [] a b → Ran (create_text mark_plan) [] b c → Ran (create_text count_plan) [] c d → MakesLast a.now d.now
last_made_too a b c d p q r has first =
    let one = makes (create_text out_plan) (made out_plan) with_last with_out adds_out a b p has in
    let two = makes (create_text mark_plan) (made mark_plan) with_out with_mark adds_mark b c q one.schema in
    let three = makes (create_text count_plan) (made count_plan) with_mark handset_schema adds_count c d r two.schema in (
      three.schema,
      record {
        meta = three.others.0 ∙ two.others.0 ∙ one.others.0 ∙ first.meta;
        entries = three.others.1.0 ∙ two.others.1.0 ∙ one.others.1.0 ∙ first.entries;
        last = three.others.1.1.0 ∙ two.others.1.1.0 ∙ one.others.1.1.0 ∙ first.last;
      },
      record {
        outbox = three.others.1.1.1.0 ∙ two.others.1.1.1.0 ∙ one.empty;
        marks = three.others.1.1.1.1.0 ∙ two.empty;
        counters = three.empty;
      },
    )

pub tables_made : (a b c : Database) → MakesFirst a b → MakesLast b c → Tabulates a c
tables_made a b c p q has = let first = p has in q first.0 first.1

module _ (a b : State) (p : Alters meta_list (put meta_list.key handset_meta) a b) (has : a.now.schema ≡ handset_schema) where
  blank_still : {X : Type 0} (m : ListOf X) → meets handset_schema 0 m.table.tree ≡ false → a.now.trees m.table.tree ≡ [] → Represents m (b.now.trees m.table.tree) []
  blank_still m apart none = other_list meta_list handset_schema refl (put meta_list.key handset_meta) a b p has m [] apart (holds_none m _ none)

module _ (b c : State) (q : Alters count_list (put count_list.key (counters_row first_counters)) b c) (has : b.now.schema ≡ handset_schema) where
  held_still : {X : Type 0} (m : ListOf X) (xs : List X) → meets handset_schema 10 m.table.tree ≡ false → Represents m (b.now.trees m.table.tree) xs
      → Represents m (c.now.trees m.table.tree) xs
  held_still m xs apart held = other_list count_list handset_schema refl (put count_list.key (counters_row first_counters)) b c q has m xs apart held

pub declared : (a b c : State) → Alters meta_list (put meta_list.key handset_meta) a b → Alters count_list (put count_list.key (counters_row first_counters)) b c → Declares a.now c.now
declared a b c p q has first last setup =
    let mid = p.schema has in
    record {
      schema = q.schema mid;
      meta = held_still b c q mid meta_list (handset_meta ∷ []) refl (p.changed has [] (holds_none meta_list _ first.meta));
      entries = held_still b c q mid entry_list [] refl (blank_still a b p has entry_list refl first.entries);
      last = held_still b c q mid last_list [] refl (blank_still a b p has last_list refl first.last);
      outbox = held_still b c q mid out_list [] refl (blank_still a b p has out_list refl last.outbox);
      marks = held_still b c q mid mark_list [] refl (blank_still a b p has mark_list refl last.marks);
      counters = q.changed mid [] (blank_still a b p has count_list refl last.counters);
    }

pub founded : (a b c : Database) → Tabulates a b → Declares b c → Founds handset_stores a c
founded a b c p q has = let tables = p has in q tables.0 tables.1 tables.2
