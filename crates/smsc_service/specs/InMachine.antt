-- What a centre's machine has.
use Rattle.sms_rows.specs.keep.KeepState.{KeepState}
use Rattle.sms_centre.specs.state.CentreState.{CentreStateOf, Represents}
use Rattle.sms_centre_group.specs.Grouping.{Spans, held_in, store_of}
use Rattle.sms_centre_group.specs.declared.group_keep.GroupKeep.{GroupKeep}
use Rattle.sms_centre_spec.specs.Draft.{Core}
use Rattle.sms_centre_spec.specs.declared.rows.Rows.{Rows}
use Rattle.smsc_service.specs.Accounts.{bare}
use Rattle.smsc_service.specs.declared.machine.CentreMachine.{CentreMachine}

-- the keep of the group
abbrev pub keep_in : {K : Type 0} → CentreMachine K → GroupKeep K
keep_in machine = machine.keep

-- the centre between two events
abbrev pub centre_in : {K : Type 0} → CentreMachine K → CentreStateOf
centre_in machine = machine.centre

-- memory has this centre, and the store's rows with what is held are its rows, without its accounts
pub record HoldsEvent {K : Type 0} (state : K → KeepState Rows) (base : Rows) (c : Core) (machine : CentreMachine K) : Type 0 where
  pub centre : Represents c machine.centre
  pub rows : Spans (state (store_of machine.keep)) (held_in machine.keep) base (bare c.rows)
