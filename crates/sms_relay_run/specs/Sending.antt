-- What a centre that started with no rows sends for the frame of a handset.
use Rattle.std.specs.Prelude.{◌≡◌, ℕ, List, Option, Result, IfOk}
use Rattle.std.specs.declared.alloc.AllocError.{AllocError}
use Rattle.sms_base.specs.HandsetNumber.{own_address}
use Rattle.sms_base.specs.declared.address.Address.{Address}
use Rattle.sms_centre.specs.state.CentreState.{Represents, CentreStateOf}
use Rattle.sms_relay.specs.RelayReading.{up_at}
use Rattle.sms_relay_run.specs.relay_laws.Relay.{IsRelayed}
use Rattle.sms_relay_run.specs.relay_laws.Relaying.{Relays, centre_for, destination_of, frame_for}
use Rattle.sms_relay_run.specs.declared.relay_laws.relayed.Relayed.{Relayed}

-- The centre is the one for a unit, the frame brings that unit, and the destination is the unit's. Then what is sent is what an
-- empty centre sends for the unit.
pub record SendsFor (from frame : List ℕ) (to : Option Address) (standing : CentreStateOf) (sent : Result Relayed AllocError) : Type 0 where
  pub is : (centre : Address) (now : ℕ) (unit : List ℕ) → Represents (centre_for centre from now unit) standing → frame ≡ frame_for unit
      → to ≡ destination_of (up_at unit)
      → Relays centre from now unit → IfOk sent (λ r. IsRelayed centre (own_address from) now unit r)
