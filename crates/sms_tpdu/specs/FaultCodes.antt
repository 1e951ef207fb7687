-- The codes of the faults in reports.
use Rattle.std.specs.Prelude.{ℕ, List, codes}
use Rattle.sms_tpdu.specs.declared.fault.TpduFault.{TpduFault}
use Rattle.sms_tpdu.specs.declared.fault.TpduFault.TheVariants.{Truncated, TrailingOctets, BadAddress, BadTime, UserDataTooLong, UnsupportedType}
use Rattle.sms_tpdu.specs.declared.fault.TpduFault.TheVariants.{UnsupportedValidity, SpareBits, BadHeader}

abbrev pub fault_code : TpduFault → List ℕ
fault_code Truncated = codes "G1"
fault_code TrailingOctets = codes "G2"
fault_code BadAddress = codes "G3"
fault_code BadTime = codes "G4"
fault_code UserDataTooLong = codes "G5"
fault_code UnsupportedType = codes "G6"
fault_code UnsupportedValidity = codes "G7"
fault_code SpareBits = codes "G8"
fault_code BadHeader = codes "G9"
