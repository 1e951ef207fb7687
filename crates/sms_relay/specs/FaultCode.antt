-- The codes of the faults in reports.
use Rattle.std.specs.Prelude.{ℕ, List, codes}
use Rattle.sms_relay.specs.declared.fault.RelayFault.{RelayFault}
use Rattle.sms_relay.specs.declared.fault.RelayFault.TheVariants.{Truncated, Trailing, Unknown, BadLength}

abbrev pub code_of : RelayFault → List ℕ
code_of Truncated = codes "J1"
code_of Trailing = codes "J2"
code_of Unknown = codes "J3"
code_of BadLength = codes "J4"
