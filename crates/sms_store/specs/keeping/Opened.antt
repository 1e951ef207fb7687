-- What a keep has of the database that it was opened over, and what a refusal, or a stop, leaves of it.
pub use Rattle.sms_store_sql.specs.listing.Causes.{IsOfNoStore}
pub use Rattle.sms_store_sql.specs.listing.Closing.{IsAsItWas}
use Rattle.std.specs.Prelude.{◌≡◌, ◌⊎◌}
use Rattle.sqlite.specs.Effect.{Database}
use Rattle.sqlite.specs.Files.{HoldsDatabase}
use Rattle.sqlite.specs.State.{State, HasCleanDisk}
use Rattle.sqlite.specs.Tree.{Trees}
use Rattle.sqlite_wal.specs.Recovery.{Image}
use Rattle.sms_store_sql.specs.listing.Transaction.{IsOpenStore}
use Rattle.sms_store_sql.specs.schema.Blank.{no_tables}
use Rattle.sms_store.specs.keeping.Stores.{StoresOf, IsStoreWith, AreStore}

-- the database that the contents of the files hold, if they hold one
abbrev pub IsIn : Image → Database → Type 0
IsIn image db = (trees : Trees) → HoldsDatabase image trees → db.trees ≡ trees

module _ {Setup Rows : Type 0} (of : StoresOf Setup Rows) where
  pub record Opened (setup : Setup) (old : Database) (new : State) : Type 0 where
    -- a database without tables became the store of the first rows
    pub founded : old.schema ≡ no_tables → IsOpenStore (IsStoreWith of setup) new (of.first_rows setup)
    -- the rows of a store are unchanged
    pub unchanged : (rows : Rows) → IsStoreWith of setup old rows → IsOpenStore (IsStoreWith of setup) new rows
    -- nothing else is opened
    pub ours : (old.schema ≡ no_tables) ⊎ of.IsOurs old

  -- the same, whatever the setup
  abbrev pub IsOpened : Database → State → Type 0
  IsOpened old new = (setup : Setup) → Opened setup old new

  -- it has become the store of the first rows, whatever the setup
  abbrev pub IsFounded : State → Type 0
  IsFounded new = (setup : Setup) → IsOpenStore (IsStoreWith of setup) new (of.first_rows setup)

  -- a database without tables, whatever the setup is to be
  abbrev pub IsBlankFor : Database → Setup → Type 0
  IsBlankFor db setup = db.schema ≡ no_tables

  -- what was left is
  pub record IsLeft (old : State) (left : Trees) : Type 0 where
    -- a store as it was
    pub current : (rows : Rows) → IsOpenStore of.IsStore old rows → left ≡ old.now.trees
    -- of a store of an earlier version that, or a store of this version with the same rows
    pub earlier : (rows : Rows) → IsOpenStore of.IsEarlier old rows → (left ≡ old.now.trees) ⊎ AreStore of left (of.raised rows)
    -- of a database without tables that, or the store of the first rows
    pub blank : (setup : Setup) → IsOpenStore IsBlankFor old setup → (left ≡ old.now.trees) ⊎ AreStore of left (of.first_rows setup)

  -- wherever the machine stopped
  abbrev pub LeavesStore : State → State → Type 0
  LeavesStore old new = HasCleanDisk new → (left : Trees) → new.may_leave left → IsLeft old left
