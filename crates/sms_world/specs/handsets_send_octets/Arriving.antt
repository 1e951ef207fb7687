-- What may arrive at a handset: frames whose units are answered under a reference of one octet, and texts.
use Rattle.std.specs.Prelude.{◌≡◌, ℕ, ◌<◌, List, true, Result, Ok, Err}
use Rattle.std.specs.Str.{all_scalars}
use Rattle.sms_control.specs.declared.fault.CpFault.{CpFault}
use Rattle.sms_control.specs.declared.message.Cp.{Cp}
use Rattle.sms_control.specs.declared.message.Cp.TheVariants.{DataUnit as CpData, AckUnit as CpAck, ErrorUnit as CpError}
use Rattle.sms_control.specs.ControlReading.{cp_at}
use Rattle.sms_relay.specs.declared.fault.RelayFault.{RelayFault}
use Rattle.sms_relay.specs.declared.frame.Rp.{Rp}
use Rattle.sms_relay.specs.declared.frame.Rp.TheVariants.{DataUnit, AckUnit, ErrorUnit, Smma}
use Rattle.sms_relay.specs.RelayReading.{down_at}
use Rattle.sms_relay.specs.Rejecting.{reference_octet}
use Rattle.sms_handset.specs.declared.event.HandsetEvent.{HandsetEvent}
use Rattle.sms_handset.specs.declared.event.HandsetEvent.TheVariants.{Frame, Tick, Write, Delete, Discard}

-- RP-DATA is answered under its reference, what can't be read under the octet where a reference would be, other units are not
abbrev pub IsAnsweredInOctet : List ℕ → Result Rp RelayFault → Type 0
IsAnsweredInOctet unit (Ok (DataUnit reference centre tpdu)) = reference < 256
IsAnsweredInOctet unit (Ok (AckUnit reference tpdu)) = Unit {0}
IsAnsweredInOctet unit (Ok (ErrorUnit reference cause tpdu)) = Unit {0}
IsAnsweredInOctet unit (Ok (Smma reference)) = Unit {0}
IsAnsweredInOctet unit (Err fault) = reference_octet unit < 256

-- CP-DATA is acknowledged in its transaction
abbrev pub BringsInOctets : Result Cp CpFault → Type 0
BringsInOctets (Ok (CpData transaction unit)) = (transaction.identifier < 7) × IsAnsweredInOctet unit (down_at unit)
BringsInOctets (Ok (CpAck transaction)) = Unit {0}
BringsInOctets (Ok (CpError transaction cause)) = Unit {0}
BringsInOctets (Err fault) = Unit {0}

abbrev pub ArrivesInOctets : List ℕ → Type 0
ArrivesInOctets octets = BringsInOctets (cp_at octets)

-- each character of a text that is written is one
abbrev pub EventInOctets : HandsetEvent → Type 0
EventInOctets (Frame octets tag) = ArrivesInOctets octets
EventInOctets (Tick now) = Unit {0}
EventInOctets (Write text to report) = all_scalars text ≡ true
EventInOctets (Delete entry) = Unit {0}
EventInOctets (Discard entry) = Unit {0}
