-- What a service asks of its centre by itself.
use Rattle.std.proofs.Common.{ℕ, Option}
use Rattle.sms_keeper.specs.declared.machine.Errand.{Errand}
use Rattle.sms_keeper.specs.declared.machine.Errand.TheVariants.{Forget, Retry, Delete, Enrol}
use Rattle.smsc_service.specs.Sparing.{IsOrder, Spares}

-- an order of its owner forgets nothing
pub spares : (kept due : Option ℕ) (now : ℕ) (e : Errand) → IsOrder e → Spares kept due now e
spares kept due now (Forget before from most) is = absurd is
spares kept due now (Retry id) is = tt
spares kept due now (Delete id) is = tt
spares kept due now (Enrol account) is = tt
