-- A store that was read as a run starts, and what it was read to have.
use Rattle.std.specs.Prelude.{◌≡◌, Option, None, IfSome}
use Rattle.sms_rows.specs.keep.KeepState.{KeepState}
use Rattle.sms_centre_spec.specs.declared.rows.Rows.{Rows}
use Rattle.smsc_operation.specs.declared.loaded_keep.LoadedKeep.{LoadedKeep}

-- As long as nobody has taken what was read, the store has those rows and no others, and is not closed.
abbrev pub known : KeepState Rows → Option Rows → KeepState Rows
known state read = record {
  is_honest = state.is_honest;
  holds = λ rows. state.holds rows × IfSome read (λ found. found ≡ rows);
  is_closed = (read ≡ None) × state.is_closed;
  refusals = state.refusals;
}

module _ {K : Type 0} where
  -- the store
  abbrev pub store_of : LoadedKeep K → K
  store_of loaded = loaded.store

  -- what it was read to have, until that is taken or let go
  abbrev pub read_in : LoadedKeep K → Option Rows
  read_in loaded = loaded.rows

-- what contracts see of it
abbrev pub loaded_state : {K : Type 0} → (K → KeepState Rows) → LoadedKeep K → KeepState Rows
loaded_state state loaded = known (state (store_of loaded)) (read_in loaded)
