-- Whole transactions: what they make of a database, what they find in it, and what a stop inside one leaves.
use Rattle.std.specs.Prelude.{◌≡◌, false, true, IsTrue}
use Rattle.sqlite.specs.Tree.{Trees}
use Rattle.sqlite.specs.Effect.{Database}
use Rattle.sqlite.specs.State.{State, Shows}

-- the transaction continues, and the change leads from what it saw to what it sees
pub record Leads (Change : Database → Database → Type 0) (old new : State) : Type 0 where
  pub inside : Shows old new new.now old.committed true
  pub changed : Change old.now new.now

-- the change is made and committed
pub record Committed (Change : Database → Database → Type 0) (old new : State) : Type 0 where
  pub inside : Shows old new new.now new.now false
  pub changed : Change old.now new.now

-- what a stop may leave once the change is committed
abbrev pub Leaves : (Database → Database → Type 0) → State → Trees → Type 0
Leaves Change old trees = (db : Database) × (trees ≡ db.trees) × Change old.now db

-- The connection is open, outside a transaction, and its database is a store of these rows: `Is` says what that is.
pub record IsOpenStore {R : Type 0} (Is : Database → R → Type 0) (s : State) (rows : R) : Type 0 where
  pub is_open : IsTrue s.is_open
  pub autocommit : s.in_transaction ≡ false
  pub settled : s.now ≡ s.committed
  pub store : Is s.now rows

-- a stop at this moment may leave a store of these rows
pub record MayLeave {R : Type 0} (Is : Database → R → Type 0) (s : State) (rows : R) : Type 0 where
  pub db : Database
  pub left : s.may_leave db.trees
  pub store : Is db rows

-- a store is one of one set of rows
abbrev pub IsOfOne : {R : Type 0} → (Database → R → Type 0) → Type 0
IsOfOne {R} Is = (a b : Database) (r s : R) → a.trees ≡ b.trees → Is a r → Is b s → r ≡ s
