-- What a keep has.
use Rattle.sqlite_trees.specs.declared.store.Store.{Ghosts}
use Rattle.sqlite.specs.Held.{Held, state}
use Rattle.sqlite.specs.State.{State, HasCleanDisk}
use Rattle.sms_rows.specs.declared.keep.refusals.Refusals.{Refusals}
use Rattle.sms_rows.specs.keep.KeepState.{KeepState}
use Rattle.sms_store_sql.specs.declared.listing.closing.Health.{Health}
use Rattle.sms_store_sql.specs.listing.Closing.{IsShut}
use Rattle.sms_store_sql.specs.listing.Transaction.{IsOpenStore}
use Rattle.sms_store.specs.keeping.Stores.{StoresOf, IsStoreWith}
use Rattle.sms_store.specs.declared.keeping.keep.StoreKeep.{StoreKeep}

module _ {P S : Type 0} where
  -- the connection to its database
  abbrev pub connection_in : StoreKeep P S → Held S
  connection_in keep = keep.conn

  -- what that database holds
  abbrev pub state_in : Ghosts S → StoreKeep P S → State
  state_in g keep = state g keep.conn

  -- the setup with which it was opened, which is not stored
  abbrev pub setup_in : StoreKeep P S → P
  setup_in keep = keep.setup

  -- the calls that it refused
  abbrev pub refusals_in : StoreKeep P S → Refusals
  refusals_in keep = keep.refusals

  -- what it knows of its connection
  abbrev pub health_in : StoreKeep P S → Health
  health_in keep = keep.health

  -- the disk has returned what was written
  abbrev pub IsHonest : Ghosts S → StoreKeep P S → Type 0
  IsHonest g keep = HasCleanDisk (state_in g keep)

  -- it is closed, until it is opened again
  abbrev pub IsClosed : Ghosts S → StoreKeep P S → Type 0
  IsClosed g keep = IsShut (health_in keep) (state_in g keep)

  module _ {R : Type 0} (of : StoresOf P R) where
    -- its database is the store of these rows
    abbrev pub HoldsRows : Ghosts S → StoreKeep P S → R → Type 0
    HoldsRows g keep rows = IsOpenStore (IsStoreWith of (setup_in keep)) (state_in g keep) rows

    -- what contracts see of it
    abbrev pub state_of : Ghosts S → StoreKeep P S → KeepState R
    state_of g keep = record {
      is_honest = IsHonest g keep;
      holds = HoldsRows g keep;
      is_closed = IsClosed g keep;
      refusals = refusals_in keep;
    }
