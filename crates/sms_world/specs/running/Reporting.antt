-- What a play answers in the place of the report that its script leads to.
use Rattle.std.specs.Prelude.{◌≡◌, List, Option, Result, Ok, Err}
use Rattle.sms_base.specs.Reading.{◌>>=◌}
use Rattle.sms_script.specs.declared.play_fault.PlayFault.{PlayFault}
use Rattle.sms_script.specs.declared.play_fault.PlayFault.TheVariants.{BadSetup, NoMemory, NoSuchAccount, NoSuchFrame, NoSuchSide}
use Rattle.sms_play.specs.PlayState.{PlayState}
use Rattle.sms_play.specs.Playing.{played_on, report_of}
use Rattle.sms_script.specs.declared.report.Broken.{Broken}
use Rattle.sms_script.specs.declared.report.Report.{Report}
use Rattle.sms_script.specs.declared.event.WorldEvent.{WorldEvent}

-- This part of it is what was wanted, or the fault is reported that was wanted in its place. Or there was no memory for it.
abbrev pub ReportsAs : {X Y : Type 0} → (X → Y) → Result X PlayFault → Result Y PlayFault → Type 0
ReportsAs part (Ok x) wanted = wanted ≡ Ok (part x)
ReportsAs part (Err (NoMemory event)) wanted = Unit {0}
ReportsAs part (Err (NoSuchFrame event)) wanted = wanted ≡ Err (NoSuchFrame event)
ReportsAs part (Err (NoSuchSide event)) wanted = wanted ≡ Err (NoSuchSide event)
ReportsAs part (Err (NoSuchAccount event)) wanted = wanted ≡ Err (NoSuchAccount event)
ReportsAs part (Err BadSetup) wanted = wanted ≡ Err BadSetup

-- the same of all of it
abbrev pub Reports : {X : Type 0} → Result X PlayFault → Result X PlayFault → Type 0
Reports result wanted = ReportsAs (λ (x : _). x) result wanted

-- A fault is the one that was wanted, or there was no memory.
abbrev pub FaultsAs : {X Y : Type 0} → Result X PlayFault → Result Y PlayFault → Type 0
FaultsAs (Ok x) wanted = Unit {0}
FaultsAs (Err (NoMemory event)) wanted = Unit {0}
FaultsAs (Err (NoSuchFrame event)) wanted = wanted ≡ Err (NoSuchFrame event)
FaultsAs (Err (NoSuchSide event)) wanted = wanted ≡ Err (NoSuchSide event)
FaultsAs (Err (NoSuchAccount event)) wanted = wanted ≡ Err (NoSuchAccount event)
FaultsAs (Err BadSetup) wanted = wanted ≡ Err BadSetup

-- the report of where these events lead from that course
abbrev pub report_on : List WorldEvent → PlayState → Result Report PlayFault
report_on events c = played_on 1 events c >>= λ (d : PlayState). Ok (report_of d)

-- this was decided, and it is reported so
abbrev pub Decides : (Option Broken → Type 0) → Result (Option Broken) PlayFault → Type 0
Decides reports wanted = (broken : Option Broken) × ((wanted ≡ Ok broken) × reports broken)
