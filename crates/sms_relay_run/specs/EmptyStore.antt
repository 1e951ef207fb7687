-- What contracts see of a store without rows: it refuses nothing.
use Rattle.std.specs.Prelude.{⊤}
use Rattle.sms_rows.specs.keep.KeepState.{KeepState}
use Rattle.sms_rows.specs.keep.Refusing.{no_refusals}

abbrev pub empty_store : KeepState (Unit {0})
empty_store = record { is_honest = ⊤; holds = λ rows. ⊤; is_closed = ⊥; refusals = no_refusals }
