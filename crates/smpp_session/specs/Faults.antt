-- The codes of refusals.
use Rattle.std.specs.Prelude.{ℕ, List, Option, Some, None, codes}
use Rattle.smpp_session.specs.declared.fault.DeliverFault.{DeliverFault}
use Rattle.smpp_session.specs.declared.fault.DeliverFault.TheVariants.{WindowFull, NotBound, NoMemory}

abbrev pub fault_code : DeliverFault → Option (List ℕ)
fault_code WindowFull = Some (codes "N1")
fault_code NotBound = Some (codes "N2")
fault_code NoMemory = None
