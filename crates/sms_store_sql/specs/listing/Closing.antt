-- Transactions of a keep, which a failure may close.
use Rattle.std.specs.Prelude.{◌≡◌, ◌⊎◌, false, IsTrue, ⊤}
use Rattle.sqlite.specs.Effect.{Database}
use Rattle.sqlite.specs.State.{State}
use Rattle.sqlite.specs.Tree.{Trees}
use Rattle.sms_rows.specs.declared.keep.error.KeepError.{KeepError}
use Rattle.sms_rows.specs.declared.keep.error.KeepError.TheVariants as error
use Rattle.sms_store_sql.specs.declared.listing.closing.Health.{Health}
use Rattle.sms_store_sql.specs.declared.listing.closing.Health.TheVariants.{Sound, InDoubt, Closed}

-- nothing changes
abbrev pub Rests : Database → Database → Type 0
Rests before after = after ≡ before

-- The keep is closed: it knows so, or it is in doubt and the connection is closed.
abbrev pub IsShut : Health → State → Type 0
IsShut Sound s = ⊥
IsShut InDoubt s = s.is_open ≡ false
IsShut Closed s = ⊤

-- what a refused call leaves of what the keep knows
abbrev pub health_after : KeepError → Health
health_after error.Closed = Closed
health_after _ = InDoubt

-- the connection is closed, or the database is as it was
abbrev pub IsAsItWas : State → State → Type 0
IsAsItWas old new = old.now ≡ old.committed → IsTrue new.is_open → (new.now ≡ old.now) × (new.committed ≡ old.committed)

-- the connection is as open as it was, and its database is as it was
pub record Rested (old new : State) : Type 0 where
  pub was_open : IsTrue new.is_open → IsTrue old.is_open
  pub is_open : IsTrue old.is_open → IsTrue new.is_open
  pub now_is : new.now ≡ old.now
  pub settled : old.now ≡ old.committed → new.committed ≡ old.committed
  pub mode : old.in_transaction ≡ false → new.in_transaction ≡ false

-- what a stop may leave: the database as it was, or what the change makes of it
abbrev pub LeavesEither : (Database → Database → Type 0) → State → Trees → Type 0
LeavesEither Change old trees = (trees ≡ old.now.trees) ⊎ ((db : Database) × (trees ≡ db.trees) × Change old.now db)

-- the trees are those of the store of these rows: `Is` says what that is
pub record AreOf {R : Type 0} (Is : Database → R → Type 0) (trees : Trees) (rows : R) : Type 0 where
  pub db : Database
  pub same : trees ≡ db.trees
  pub store : Is db rows
