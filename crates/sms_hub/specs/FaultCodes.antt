-- The codes of the faults in reports.
use Rattle.std.specs.Prelude.{ℕ, List, codes}
use Rattle.sms_hub.specs.declared.hub_fault.HubFault.{HubFault}
use Rattle.sms_hub.specs.declared.hub_fault.HubFault.TheVariants.{NoThread, NoMemory, MachineFailed, TooManySessions}

abbrev pub hub_code : HubFault → List ℕ
hub_code NoThread = codes "B1"
hub_code NoMemory = codes "B2"
hub_code MachineFailed = codes "B3"
hub_code TooManySessions = codes "B4"
