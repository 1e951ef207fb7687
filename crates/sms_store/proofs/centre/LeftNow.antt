-- What a centre's keep leaves, which was closed, is no store of an earlier version.
use Rattle.std.proofs.Common.{◌≡◌, inl, inr, length, sym, ap, ◌∙◌, arith}
use Rattle.sqlite.specs.Effect.{Database, IsDatabase}
use Rattle.sqlite.specs.Schema.{Schema}
use Rattle.sqlite.specs.State.{State}
use Rattle.sqlite_wal.specs.Recovery.{Image}
use Rattle.sms_store_sql.specs.listing.Transaction.{IsOpenStore}
use Rattle.sms_store_tables.specs.centre.CentreSchema.{first_schema, first_schema_is, schema_is, second_schema, second_schema_is}
use Rattle.sms_store.specs.keeping.Closing.{HoldsStore}
use Rattle.sms_store.specs.keeping.Opened.{IsIn}
use Rattle.sms_store.specs.keeping.Stores.{IsStoreWith}
use Rattle.sms_store.specs.centre.CentreRows.{centre_stores}
use Rattle.sms_store.specs.centre.Migrating.{Migrated}
use Rattle.sms_store.specs.centre.Types.{Rows, Setup}
use Rattle.sms_store.proofs.keeping.Closed.{as_many_tables, not_without, still_store}
use Rattle.sms_store.specs.centre.Lawful.{centre_lawful}

module _ (image : Image) (rows : Rows) (old : Database) (holds : HoldsStore centre_stores image rows) (is : IsDatabase old) (found : IsIn image old) where
  not_first : old.schema ≡ first_schema → ⊥
  not_first first =
      let many = as_many_tables centre_stores centre_lawful image rows old holds is found in
      let count : 6 ≡ 8 =
      sym (ap (λ (schema : Schema). length schema.tables) (first ∙ first_schema_is)) ∙ (many ∙ ap (λ (schema : Schema). length schema.tables) schema_is) in
      omega (arith, count)

  not_second : old.schema ≡ second_schema → ⊥
  not_second second =
      let many = as_many_tables centre_stores centre_lawful image rows old holds is found in
      let count : 7 ≡ 8 =
      sym (ap (λ (schema : Schema). length schema.tables) (second ∙ second_schema_is)) ∙ (many ∙ ap (λ (schema : Schema). length schema.tables) schema_is) in
      omega (arith, count)

  pub migrated_again : (setup : Setup) (s : State) → Migrated setup old s → IsOpenStore (IsStoreWith centre_stores setup) s (record rows { setup = setup })
  migrated_again setup s migrated = elim migrated.ours [
    | inl none ↦ absurd (not_without centre_stores centre_lawful image rows old holds is found none)
    | inr (inl says) ↦ migrated.unchanged _ (still_store centre_stores centre_lawful image rows old holds is found setup says)
    | inr (inr (inl says)) ↦ absurd (not_second says.tables)
    | inr (inr (inr says)) ↦ absurd (not_first says.tables)
  ]
