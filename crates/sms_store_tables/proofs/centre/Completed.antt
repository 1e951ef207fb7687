-- What the texts lead to that make what version 1 lacks.
use Rattle.std.proofs.Common.{List, ℕ, [], refl, ◌∙◌}
use Rattle.sqlite.specs.Effect.{Database}
use Rattle.sqlite.specs.Order.{Row}
use Rattle.sqlite.specs.State.{State}
use Rattle.sms_store_sql.specs.listing.Inside.{Ran}
use Rattle.sms_store_sql.specs.listing.Transaction.{Leads}
use Rattle.sms_store_sql.proofs.listing.Making.{makes}
use Rattle.sms_store_tables.specs.centre.CentreSchema.{first_schema, second_schema, with_priority, centre_schema, adds_bar, adds_priority, bar_plan, create_report_message, report_message_made, adds_report_message, priority_plan, report_plan}
use Rattle.sms_store_tables.proofs.centre.Indexing.{indexes}
use Rattle.sms_store_tables.specs.centre.Completing.{Completes, IndexesReports, MakesBars, MakesPriority, MakesSecond}
use Rattle.sms_store_sql.specs.tabled.TablePlan.{defined, made}
use Rattle.sms_store_sql.specs.tabled.Texts.{create_text}

pub ran_leads : (P : Database → Database → Type 0) (sql : List ℕ) (params : Row) (a b : State) → (Ran sql params a b → P a.now b.now) → Ran sql params a b → Leads P a b
ran_leads P sql params a b turn h = record { inside = h.inside; changed = turn h }

-- one step after another
pub leads_then : (P Q R : Database → Database → Type 0) (a b c : State) → ((x y z : Database) → P x y → Q y z → R x z) → Leads P a b → Leads Q b c → Leads R a c
leads_then P Q R a b c both p q = record {
  inside = record { was_open = p.inside.was_open; is_open = q.inside.is_open; now_is = refl; committed_is = q.inside.committed_is ∙ p.inside.committed_is; mode = q.inside.mode };
  changed = both _ _ _ p.changed q.changed;
}

pub priority_table_made : (a b : State) → Ran (create_text priority_plan) [] a b → MakesPriority a.now b.now
priority_table_made a b p has = makes (create_text priority_plan) (made priority_plan) first_schema with_priority adds_priority a b p has

pub reports_indexed : (a b : State) → Ran create_report_message [] a b → IndexesReports a.now b.now
reports_indexed a b p has = indexes create_report_message 5 (defined 10 report_plan) report_message_made with_priority second_schema adds_report_message a b p has

pub bar_table_made : (a b : State) → Ran (create_text bar_plan) [] a b → MakesBars a.now b.now
bar_table_made a b p has = makes (create_text bar_plan) (made bar_plan) second_schema centre_schema adds_bar a b p has

pub second_made : (a b c : Database) → MakesPriority a b → IndexesReports b c → MakesSecond a c
second_made a b c makes_table makes_index has =
    let one = makes_table has in
    let two = makes_index one.schema in
    record {
      schema = two.schema;
      empty = two.rows.1.1.1.1.1.1.0 ∙ one.empty;
      others = (two.rows.0 ∙ one.others.0, (two.rows.1.0 ∙ one.others.1.0, (two.rows.1.1.0 ∙ one.others.1.1.0, (two.rows.1.1.1.0 ∙ one.others.1.1.1.0, (two.rows.1.1.1.1.0 ∙ one.others.1.1.1.1.0, (two.rows.1.1.1.1.1.0 ∙ one.others.1.1.1.1.1.0, tt))))));
    }

pub completed : (a b c : Database) → MakesSecond a b → MakesBars b c → Completes a c
completed a b c makes_second makes_bars has =
    let one = makes_second has in
    let two = makes_bars one.schema in
    record {
      schema = two.schema;
      ranks = two.others.1.1.1.1.1.1.0 ∙ one.empty;
      bars = two.empty;
      others = (two.others.0 ∙ one.others.0, (two.others.1.0 ∙ one.others.1.0, (two.others.1.1.0 ∙ one.others.1.1.0, (two.others.1.1.1.0 ∙ one.others.1.1.1.0, (two.others.1.1.1.1.0 ∙ one.others.1.1.1.1.0, (two.others.1.1.1.1.1.0 ∙ one.others.1.1.1.1.1.0, tt))))));
    }
