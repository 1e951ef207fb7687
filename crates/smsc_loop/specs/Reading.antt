-- What a look at a connection found.
use Rattle.std.specs.Prelude.{ℕ, List, [], Bool, true, false}
use Rattle.smsc_loop.specs.declared.wire.Found.{Found}
use Rattle.smsc_loop.specs.declared.wire.Found.TheVariants.{Some, Nothing, Ended, Lost}

-- the octets that arrived, by those that the wire gave last
abbrev pub octets_found : Found → List ℕ → List ℕ
octets_found Some last = last
octets_found Nothing last = []
octets_found Ended last = []
octets_found Lost last = []

abbrev pub is_end : Found → Bool
is_end Some = false
is_end Nothing = false
is_end Ended = true
is_end Lost = false

abbrev pub is_loss : Found → Bool
is_loss Some = false
is_loss Nothing = false
is_loss Ended = false
is_loss Lost = true
