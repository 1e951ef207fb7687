-- The codes of the faults in reports. Want of memory has none.
use Rattle.std.specs.Prelude.{ℕ, List, Option, Some, None, codes}
use Rattle.sms_control.specs.declared.fault.CpFault.{CpFault}
use Rattle.sms_control.specs.declared.fault.CpFault.TheVariants.{Truncated, Trailing, Unknown, BadLength}
use Rattle.sms_control.specs.declared.link_error.LinkError.{LinkError}
use Rattle.sms_control.specs.declared.link_error.LinkError.TheVariants.{Busy, NothingToAnswer, NoMemory}

abbrev pub frame_code : CpFault → List ℕ
frame_code Truncated = codes "P1"
frame_code Trailing = codes "P2"
frame_code Unknown = codes "P3"
frame_code BadLength = codes "P4"

abbrev pub link_code : LinkError → Option (List ℕ)
link_code Busy = Some (codes "L1")
link_code NothingToAnswer = Some (codes "L2")
link_code NoMemory = None
