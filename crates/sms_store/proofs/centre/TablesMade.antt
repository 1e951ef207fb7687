-- What the texts that make the tables lead to.
use Rattle.std.proofs.Common.{◌≡◌, [], refl, ◌∙◌, false}
use Rattle.sqlite.specs.Effect.{Database}
use Rattle.sqlite.specs.State.{State}
use Rattle.sms_rows.specs.table.Table.{put}
use Rattle.sms_store_sql.specs.schema.Blank.{no_tables}
use Rattle.sms_store_sql.specs.listing.Inside.{Alters, Ran}
use Rattle.sms_store_sql.specs.listing.Listing.{ListOf, Represents}
use Rattle.sms_store_sql.proofs.listing.Apart.{meets}
use Rattle.sms_store_sql.proofs.listing.Making.{makes}
use Rattle.sms_store_tables.specs.centre.CentreSchema.{with_meta, with_message, with_part, with_reference, with_handset, first_schema, centre_schema, adds_meta, adds_message, adds_part, adds_reference, adds_handset, adds_report, handset_plan, message_plan, part_plan, reference_plan, report_plan}
use Rattle.sms_store_tables.specs.centre.MetaList.{meta_list}
use Rattle.sms_store_tables.specs.centre.MessageList.{message_list}
use Rattle.sms_store_tables.specs.centre.PartList.{part_list}
use Rattle.sms_store_tables.specs.centre.ReferenceList.{reference_list}
use Rattle.sms_store_tables.specs.centre.HandsetList.{handset_list}
use Rattle.sms_store_tables.specs.centre.ReportList.{report_list}
use Rattle.sms_store_tables.specs.centre.BarList.{bar_list}
use Rattle.sms_store_tables.specs.centre.PriorityList.{priority_list}
use Rattle.sms_store_migration.specs.Versions.{centre_meta}
use Rattle.sms_store.specs.keeping.Stores.{Founds}
use Rattle.sms_store.specs.centre.CentreRows.{centre_stores}
use Rattle.sms_store_tables.specs.centre.Completing.{Completes}
use Rattle.sms_store.specs.centre.Founding.{HasFirst, HasNext, MakesFirst, MakesNext, Tabulates, Declares}
use Rattle.sms_store.proofs.keeping.Lists.{holds_none, other_list}
use Rattle.sms_store_sql.specs.tabled.TablePlan.{made}
use Rattle.sms_store_sql.specs.tabled.Texts.{create_text}
use Rattle.sms_store_sql.specs.tabled.MetaTable.{meta_plan}

pub first_made : (a b c d : State) → Ran (create_text meta_plan) [] a b → Ran (create_text message_plan) [] b c → Ran (create_text part_plan) [] c d → MakesFirst a.now d.now
first_made a b c d p q r has =
    let one = makes (create_text meta_plan) (made meta_plan) no_tables with_meta adds_meta a b p has in
    let two = makes (create_text message_plan) (made message_plan) with_meta with_message adds_message b c q one.schema in
    let three = makes (create_text part_plan) (made part_plan) with_message with_part adds_part c d r two.schema in
    (three.schema, record { meta = three.others.0 ∙ two.others.0 ∙ one.empty; messages = three.others.1.0 ∙ two.empty; parts = three.empty })

pub next_made : (a b c d : State) → Ran (create_text reference_plan) [] a b → Ran (create_text handset_plan) [] b c → Ran (create_text report_plan) [] c d → MakesNext a.now d.now
next_made a b c d p q r has first =
    let one = makes (create_text reference_plan) (made reference_plan) with_part with_reference adds_reference a b p has in
    let two = makes (create_text handset_plan) (made handset_plan) with_reference with_handset adds_handset b c q one.schema in
    let three = makes (create_text report_plan) (made report_plan) with_handset first_schema adds_report c d r two.schema in (
      three.schema,
      record {
        meta = three.others.0 ∙ two.others.0 ∙ one.others.0 ∙ first.meta;
        messages = three.others.1.0 ∙ two.others.1.0 ∙ one.others.1.0 ∙ first.messages;
        parts = three.others.1.1.0 ∙ two.others.1.1.0 ∙ one.others.1.1.0 ∙ first.parts;
      },
      record {
        references = three.others.1.1.1.0 ∙ two.others.1.1.1.0 ∙ one.empty;
        handsets = three.others.1.1.1.1.0 ∙ two.empty;
        reports = three.empty;
      },
    )

abbrev pub MakesBoth : Database → Database → Type 0
MakesBoth before after = before.schema ≡ no_tables → (after.schema ≡ first_schema) × HasFirst after × HasNext after

pub both_made : (a b c : Database) → MakesFirst a b → MakesNext b c → MakesBoth a c
both_made a b c p q has = let first = p has in q first.0 first.1

pub tables_made : (a b c : Database) → MakesBoth a b → Completes b c → Tabulates a c
tables_made a b c p q has =
    let had = p has in
    let made = q had.0 in (
      made.schema,
      record { meta = made.others.0 ∙ had.1.meta; messages = made.others.1.0 ∙ had.1.messages; parts = made.others.1.1.0 ∙ had.1.parts },
      record { references = made.others.1.1.1.0 ∙ had.2.references; handsets = made.others.1.1.1.1.0 ∙ had.2.handsets; reports = made.others.1.1.1.1.1.0 ∙ had.2.reports },
      record { priorities = made.ranks; bars = made.bars },
    )

module _ (a b : State) (p : Alters meta_list (put meta_list.key centre_meta) a b) (has : a.now.schema ≡ centre_schema) where
  blank_still : {X : Type 0} (m : ListOf X) → meets centre_schema 0 m.table.tree ≡ false → a.now.trees m.table.tree ≡ [] → Represents m (b.now.trees m.table.tree) []
  blank_still m apart none = other_list meta_list centre_schema refl (put meta_list.key centre_meta) a b p has m [] apart (holds_none m _ none)

pub declared : (a b : State) → Alters meta_list (put meta_list.key centre_meta) a b → Declares a.now b.now
declared a b p has first next last setup = record {
  schema = p.schema has;
  meta = p.changed has [] (holds_none meta_list _ first.meta);
  messages = blank_still a b p has message_list refl first.messages;
  parts = blank_still a b p has part_list refl first.parts;
  references = blank_still a b p has reference_list refl next.references;
  handsets = blank_still a b p has handset_list refl next.handsets;
  reports = blank_still a b p has report_list refl next.reports;
  priorities = blank_still a b p has priority_list refl last.priorities;
  bars = blank_still a b p has bar_list refl last.bars;
}

pub founded : (a b c : Database) → Tabulates a b → Declares b c → Founds centre_stores a c
founded a b c p q has = let tables = p has in q tables.0 tables.1 tables.2 tables.3
