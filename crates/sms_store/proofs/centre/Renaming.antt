-- What is kept of a database of an earlier version that was opened.
use Rattle.std.proofs.Common.{◌≡◌, inl, inr, false, Ok, sym, subst, ◌∙◌}
use Rattle.sqlite.specs.Effect.{Database}
use Rattle.sqlite.specs.State.{State, Shows}
use Rattle.sms_store_sql.specs.listing.Transaction.{Committed}
use Rattle.sms_store_tables.specs.centre.CentreSchema.{first_schema, second_schema}
use Rattle.sms_store_migration.specs.Migrating.{Migrates, MigratesSecond}
use Rattle.sms_store_migration.specs.Versions.{IsFirstStore, IsSecondStore}
use Rattle.sms_store.specs.centre.Migrating.{Migrated}
use Rattle.sms_store.specs.centre.CentreRows.{centre_stores}
use Rattle.sms_store.specs.centre.Refusing.{SaysFirst, SaysSecond}
use Rattle.sms_store.specs.keeping.Opened.{Opened}
use Rattle.sms_store.specs.centre.Types.{Setup}
use Rattle.sms_store.specs.centre.Lawful.{first_differs, second_differs}
use Rattle.sms_store.proofs.centre.Schemas.{earlier_apart, schemas_differ, second_apart}

-- a look before the change changes nothing of it
pub raised_then : (a b c : State) → Shows a b a.now a.now false → Committed Migrates b c → Committed Migrates a c
raised_then a b c shows made = record {
  inside = record { was_open = shows.was_open; is_open = made.inside.is_open; now_is = made.inside.now_is; committed_is = made.inside.committed_is; mode = made.inside.mode };
  changed = λ rows is. made.changed rows (subst (λ (d : Database). IsFirstStore d rows) (sym shows.now_is) is);
}

pub raised_second_then : (a b c : State) → Shows a b a.now a.now false → Committed MigratesSecond b c → Committed MigratesSecond a c
raised_second_then a b c shows made = record {
  inside = record { was_open = shows.was_open; is_open = made.inside.is_open; now_is = made.inside.now_is; committed_is = made.inside.committed_is; mode = made.inside.mode };
  changed = λ rows is. made.changed rows (subst (λ (d : Database). IsSecondStore d rows) (sym shows.now_is) is);
}

-- a store that was opened as it is
pub migrated_opened : (setup : Setup) (old : Database) (new : State) → Opened centre_stores setup old new → Migrated setup old new
migrated_opened setup old new opened = record {
  founded = opened.founded;
  unchanged = opened.unchanged;
  raised = λ rows is. absurd (elim opened.ours [ inl none ↦ first_differs (sym none ∙ is.0.schema) | inr says ↦ schemas_differ (sym says.tables ∙ is.0.schema) ]);
  raised_second = λ rows is. absurd (elim opened.ours [ inl none ↦ second_differs (sym none ∙ is.0.schema) | inr says ↦ second_apart (sym says.tables ∙ is.0.schema) ]);
  ours = elim opened.ours [ inl none ↦ inl none | inr says ↦ inr (inl says) ];
}

-- one of version 1
pub migrated_first : (setup : Setup) (old new : State) → old.now.schema ≡ first_schema → Committed Migrates old new → SaysFirst 1 (Ok tt) old.now → Migrated setup old.now new
migrated_first setup old new ours made says = record {
  founded = λ none. absurd (first_differs (sym none ∙ ours));
  unchanged = λ rows is. absurd (schemas_differ (sym is.0.schema ∙ ours));
  raised = λ rows is. record { is_open = made.inside.is_open; autocommit = made.inside.mode; settled = sym made.inside.committed_is; store = (made.changed rows is.0, is.1) };
  raised_second = λ rows is. absurd (earlier_apart (sym is.0.schema ∙ ours));
  ours = inr (inr (inr says));
}

-- one of version 2
pub migrated_second : (setup : Setup) (old new : State) → old.now.schema ≡ second_schema → Committed MigratesSecond old new → SaysSecond 2 (Ok tt) old.now → Migrated setup old.now new
migrated_second setup old new ours made says = record {
  founded = λ none. absurd (second_differs (sym none ∙ ours));
  unchanged = λ rows is. absurd (second_apart (sym is.0.schema ∙ ours));
  raised = λ rows is. absurd (earlier_apart (sym ours ∙ is.0.schema));
  raised_second = λ rows is. record { is_open = made.inside.is_open; autocommit = made.inside.mode; settled = sym made.inside.committed_is; store = (made.changed rows is.0, is.1) };
  ours = inr (inr (inl says));
}
