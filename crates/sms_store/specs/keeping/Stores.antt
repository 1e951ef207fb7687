-- What the stores of a centre, or of a handset, are.
use Rattle.std.specs.Prelude.{◌≡◌, ◌⊎◌, length}
use Rattle.sqlite.specs.Effect.{Database}
use Rattle.sqlite.specs.Schema.{Schema}
use Rattle.sqlite.specs.State.{State}
use Rattle.sqlite.specs.Tree.{Trees}
use Rattle.sms_rows.specs.declared.keep.error.KeepError.{KeepError}
use Rattle.sms_store_sql.specs.listing.Transaction.{IsOfOne}
use Rattle.sms_store_sql.specs.schema.Blank.{no_tables}

pub record StoresOf (Setup Rows : Type 0) : Type 1 where
  pub schema : Schema
  -- the database is the store of these rows, whose setup is handed in and not stored
  pub IsStore : Database → Rows → Type 0
  pub setup_of : Rows → Setup
  -- the rows as one who hands in this setup has them
  pub with_setup : Setup → Rows → Rows
  -- the rows of a new store
  pub first_rows : Setup → Rows
  -- the database is the store of an earlier version of these rows, which become those
  pub IsEarlier : Database → Rows → Type 0
  pub raised : Rows → Rows
  -- it says of itself that it is a store of this version
  pub IsOurs : Database → Type 0
  -- why it is refused
  pub Refuses : KeepError → Database → Type 0

module _ {Setup Rows : Type 0} (of : StoresOf Setup Rows) where
  -- the setup is this
  abbrev pub IsStoreWith : Setup → Database → Rows → Type 0
  IsStoreWith setup db rows = of.IsStore db rows × (of.setup_of rows ≡ setup)

  -- a change that turns the store of some rows into that of others
  abbrev pub Turns : (Rows → Rows) → Database → Database → Type 0
  Turns change before after = (rows : Rows) → of.IsStore before rows → of.IsStore after (change rows)

  -- an empty database becomes the store of the first rows
  abbrev pub Founds : Database → Database → Type 0
  Founds before after = before.schema ≡ no_tables → (setup : Setup) → of.IsStore after (of.first_rows setup)

  -- the database is the store of some rows with this setup
  abbrev pub HasRows : Setup → Database → Type 0
  HasRows setup db = (rows : Rows) × IsStoreWith setup db rows

  -- the rows that are found
  abbrev pub FindsRows : Setup → Database → Rows → Type 0
  FindsRows setup db found = (rows : Rows) → IsStoreWith setup db rows → found ≡ rows

  -- the trees are those of the store of these rows
  abbrev pub AreStore : Trees → Rows → Type 0
  AreStore trees rows = (db : Database) × (trees ≡ db.trees) × of.IsStore db rows

  -- Whatever a stop inside a commit leaves is the store of the rows before it, or of those after it.
  abbrev pub LeavesBeforeOrAfter : State → Rows → Rows → Type 0
  LeavesBeforeOrAfter new before after = (left : Trees) → new.may_leave left → AreStore left before ⊎ AreStore left after

  -- Whatever a stop inside a call that reads leaves is the store of the rows.
  abbrev pub LeavesRows : State → Rows → Type 0
  LeavesRows new rows = (left : Trees) → new.may_leave left → AreStore left rows

  -- What a side owes of its stores.
  pub record AreStores : Type 0 where
    pub tables : (db : Database) (rows : Rows) → of.IsStore db rows → db.schema ≡ of.schema
    pub earlier_tables : (db : Database) (rows : Rows) → of.IsEarlier db rows → db.schema ≡ no_tables → ⊥
    pub some_tables : length of.schema.tables ≡ 0 → ⊥
    pub our_tables : (db : Database) → of.IsOurs db → db.schema ≡ of.schema
    -- what is not in the trees is the tables' shape and the setup
    pub by_trees : (db other : Database) (rows : Rows) (setup : Setup) → other.schema ≡ of.schema → other.trees ≡ db.trees → of.IsStore db rows
        → IsStoreWith setup other (of.with_setup setup rows)
    pub once : (setup : Setup) → IsOfOne (IsStoreWith setup)
    pub first_setup : (setup : Setup) → of.setup_of (of.first_rows setup) ≡ setup
