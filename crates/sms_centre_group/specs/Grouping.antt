-- A group over a store.
use Rattle.std.specs.Prelude.{◌≡◌, ◌⊎◌, ℕ, List, Option, Result, Ok, Err}
use Rattle.sms_rows.specs.keep.KeepState.{KeepState}
use Rattle.sms_rows.specs.declared.keep.refusals.Refusals.{Refusals}
use Rattle.sms_centre_spec.specs.Draft.{rows_after}
use Rattle.sms_centre_spec.specs.declared.rows.Changes.{Changes}
use Rattle.sms_centre_spec.specs.declared.rows.Rows.{Rows}
use Rattle.sms_centre_group.specs.Newest.{first_of, put_octets}
use Rattle.sms_centre_group.specs.HeldRoom.{changes_in}
use Rattle.sms_centre_group.specs.declared.group_keep.GroupKeep.{GroupKeep}

module _ {K : Type 0} where
  -- the store of what is committed
  abbrev pub store_of : GroupKeep K → K
  store_of group = group.store

  -- what the events of the group changed
  abbrev pub held_in : GroupKeep K → Changes
  held_in group = changes_in group.held

-- the store has the rows from before the group, and with what it changed they are these
abbrev pub Spans : KeepState Rows → Changes → Rows → Rows → Type 0
Spans state held base rows = state.holds base × (rows ≡ rows_after held base)

-- The rows of the group are committed. Or the store has those from before it, or is closed. Either way no group is open.
abbrev pub FlushEnds : {A E : Type 0} → KeepState Rows → Changes → Rows → Rows → Result A E → Type 0
FlushEnds state held base rows (Ok done) = Spans state held rows rows
FlushEnds state held base rows (Err error) = Spans state held base base ⊎ state.is_closed

-- what contracts see of a group: the rows that are committed, and what it changed
abbrev pub grouped : KeepState Rows → Changes → Refusals → KeepState (Rows × Changes)
grouped state held refusals = record {
  is_honest = state.is_honest;
  holds = λ rows. state.holds rows.0 × (rows.1 ≡ held);
  is_closed = state.is_closed;
  refusals = refusals;
}

abbrev pub group_state : {K : Type 0} → (K → KeepState Rows) → GroupKeep K → KeepState (Rows × Changes)
group_state state group = grouped (state (store_of group)) (held_in group) group.refusals

-- the octets that the group put under a key, or else those of what is committed
abbrev pub grouped_body : (Rows → ℕ → Option (List ℕ)) → Rows × Changes → ℕ → Option (List ℕ)
grouped_body body_of rows key = first_of (put_octets rows.1 key) (body_of rows.0 key)
