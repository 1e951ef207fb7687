-- The codes of what ends a play, in reports, each with the number of its event.
use Rattle.std.specs.Prelude.{ℕ, List, codes}
use Rattle.sms_script.specs.declared.play_fault.PlayFault.{PlayFault}
use Rattle.sms_script.specs.declared.play_fault.PlayFault.TheVariants.{BadSetup, NoMemory, NoSuchAccount, NoSuchFrame, NoSuchSide}

abbrev pub play_code : PlayFault → List ℕ
play_code (NoSuchFrame event) = codes "F1"
play_code (NoSuchSide event) = codes "F2"
play_code (NoSuchAccount event) = codes "F3"
play_code (NoMemory event) = codes "F4"
play_code BadSetup = codes "F5"

-- the head has number 0
abbrev pub event_number : PlayFault → ℕ
event_number (NoSuchFrame event) = event
event_number (NoSuchSide event) = event
event_number (NoSuchAccount event) = event
event_number (NoMemory event) = event
event_number BadSetup = 0
