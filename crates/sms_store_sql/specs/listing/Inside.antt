-- Statements on lists inside one transaction.
use Rattle.std.specs.Prelude.{◌≡◌, ◌≢◌, ℕ, List, [], map, IsTrue, true, Result, Ok, OnOk, IfOk}
use Rattle.sqlite.specs.declared.error.Error.{Error}
use Rattle.sqlite.specs.Store.{Ghosts}
use Rattle.sqlite.specs.Order.{Row}
use Rattle.sqlite.specs.Schema.{Schema}
use Rattle.sqlite.specs.State.{State, HasCleanDisk, Shows, Shown, IsUnchanged, Executes, KeepsCommit, Survives}
use Rattle.sqlite.specs.Held.{Held, state}
use Rattle.sqlite.specs.Listing.{understood}
use Rattle.sqlite.proofs.Callers.{IsPlain}
use Rattle.sqlite_rules.specs.Edit.{IsNoIndex}
use Rattle.sms_store_sql.specs.listing.Listing.{ListOf, Represents}

-- the statement ran, and the transaction continues
pub record Ran (sql : List ℕ) (params : Row) (old new : State) : Type 0 where
  pub count : ℕ
  pub ran : Executes sql params old new (Ok count)
  pub inside : Shows old new new.now old.committed true

-- it ran on that many rows
pub record RanOn (sql : List ℕ) (params : Row) (count : ℕ) (old new : State) : Type 0 where
  pub ran : Executes sql params old new (Ok count)
  pub inside : Shows old new new.now old.committed true

-- The transaction continues. In a store of this schema the list makes that change, and every other table is as it was.
pub record Alters {X : Type 0} (l : ListOf X) (change : List X → List X) (old new : State) : Type 0 where
  pub inside : Shows old new new.now old.committed true
  pub schema : old.now.schema ≡ l.table.schema → new.now.schema ≡ l.table.schema
  pub changed : old.now.schema ≡ l.table.schema → (xs : List X) → Represents l (old.now.trees l.table.tree) xs
      → Represents l (new.now.trees l.table.tree) (change xs)
  pub others : old.now.schema ≡ l.table.schema → (tree : ℕ) → tree ≢ l.table.tree → IsNoIndex l.table.schema tree → new.now.trees tree ≡ old.now.trees tree

-- the rows that were read are those that the list's text shows, and nothing changed
pub record Gathers {X : Type 0} (l : ListOf X) (old new : State) (found : List X) : Type 0 where
  pub rows : List Row
  pub shown : Shown l.table.select [] old new rows
  pub read : found ≡ map l.reads rows

-- the text only reads
abbrev pub OnlyReads : List ℕ → State → Type 0
OnlyReads sql s = IsPlain (understood s.now.schema sql)

-- outside a transaction the database is as it was, or the connection is closed
pub record StaysOutside (old new : State) : Type 0 where
  pub was_open : IsTrue new.is_open → IsTrue old.is_open
  pub same : old.now ≡ old.committed → IsTrue new.is_open → (new.now ≡ old.now) × (new.committed ≡ old.committed)

-- in a database of this schema a stop leaves nothing new
abbrev pub SparesOwn : Schema → State → State → Type 0
SparesOwn schema old new = Survives old new (λ _. old.now.schema ≡ schema → ⊥)

module _ {S : Type 0} (g : Ghosts S) (old new : Held S) where
  -- a call inside an open transaction makes the step, where it answers Ok
  abbrev pub MakesStep : (State → State → Type 0) → Result (Unit {0}) Error → Type 0
  MakesStep Step result =
      HasCleanDisk (state g new) → IsTrue (state g old).is_open → IsTrue (state g old).in_transaction → OnOk result (Step (state g old) (state g new))

  -- and so does one that gives a number
  abbrev pub Counts : (ℕ → State → State → Type 0) → Result ℕ Error → Type 0
  Counts Step result =
      HasCleanDisk (state g new) → IsTrue (state g old).is_open → IsTrue (state g old).in_transaction
      → IfOk result (λ count. Step count (state g old) (state g new))

  -- a call that only reads finds the list, where it answers Ok
  abbrev pub Finds : {X Y : Type 0} → ListOf X → (Y → List X) → Result Y Error → Type 0
  Finds {X} l read result = HasCleanDisk (state g new) → (state g old).now.schema ≡ l.table.schema
      → IfOk result (λ y. IsUnchanged (state g old) (state g new) × ((xs : List X) → Represents l ((state g old).now.trees l.table.tree) xs → read y ≡ xs))

  -- and a failure changes nothing, or has rolled back
  abbrev pub Stays : {X : Type 0} → ListOf X → Type 0
  Stays l = HasCleanDisk (state g new) → (state g old).now.schema ≡ l.table.schema → KeepsCommit (state g old) (state g new)

  -- nothing was committed
  abbrev pub Keeps : Type 0
  Keeps = HasCleanDisk (state g new) → KeepsCommit (state g old) (state g new)

  -- nor may a stop leave anything new
  abbrev pub Spares : Type 0
  Spares = Survives (state g old) (state g new) (λ _. ⊥)
