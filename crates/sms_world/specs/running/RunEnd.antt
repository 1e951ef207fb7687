-- How a run over the text of a script ends.
use Rattle.std.specs.Prelude.{◌≡◌, ℕ, List, Option, Result, Ok, Err}
use Rattle.sms_base.specs.Reading.{◌>>=◌}
use Rattle.sms_script.specs.declared.play_fault.PlayFault.{PlayFault}
use Rattle.sms_script.specs.declared.play_fault.PlayFault.TheVariants.{BadSetup as HasBadSetup, NoMemory as HasNoMemory, NoSuchAccount as HasNoSuchAccount}
use Rattle.sms_script.specs.declared.play_fault.PlayFault.TheVariants.{NoSuchFrame as HasNoSuchFrame, NoSuchSide as HasNoSuchSide}
use Rattle.sms_play.specs.Running.{BadLine as HasBadLine, Ran, Stopped, Wrote}
use Rattle.sms_world.specs.declared.running.run.SimError.{SimError}
use Rattle.sms_world.specs.declared.running.run.SimError.TheVariants.{BadLine, BadSetup, Io, NoMemory, NoSuchAccount, NoSuchFrame, NoSuchSide}
use Rattle.sms_script.specs.report.ReportText.{report_text}
use Rattle.sms_script.specs.declared.report.Broken.{Broken}
use Rattle.sms_script.specs.declared.report.Report.{Report}
use Rattle.sms_script.specs.declared.fault.ScriptFault.{ScriptFault}
use Rattle.sms_script.specs.declared.fault.ScriptFault.TheVariants.{BadLine as IsBadLine, NoMemory as IsNoMemory}
use Rattle.sms_script.specs.declared.script.Script.{Script}
use Rattle.sms_script.specs.WholeScript.{script_in}
use Rattle.sms_world.specs.headline.Headline.{Headline}
use Rattle.sms_world.specs.headline.DecidedPremises.{Premises}
use Rattle.sms_world.specs.headline.PlainReports.{IsPlain}

-- the text of a report, with what its events break
abbrev pub text_of_report : Result Report PlayFault → Result (Option Broken) PlayFault → Result (List ℕ) PlayFault
text_of_report report premises = report >>= λ (r : Report). premises >>= λ (broken : Option Broken). Ok (report_text r broken)

-- ---- how it ends

-- no line of it is bad
abbrev pub Reads : Ran → Type 0
Reads (Wrote text) = Unit {0}
Reads (HasBadLine line) = ⊥
Reads (Stopped fault) = Unit {0}

-- there is nothing to write
abbrev pub WritesNothing : Ran → Type 0
WritesNothing (Wrote text) = ⊥
WritesNothing (HasBadLine line) = Unit {0}
WritesNothing (Stopped fault) = Unit {0}

-- The text is written that is to be written. A bad line and a fault are reported by their numbers. Want of memory is reported only of a
-- text whose lines are good. Then nothing is written. A read or a write that failed may be reported of any text, but where there is
-- nothing to write nothing is written then either. `writes` says that a text was written, `same` that the writer is as it was.
abbrev pub EndsFor : Result (Unit {0}) SimError → (List ℕ → Type 0) → Type 0 → Ran → Type 0
EndsFor (Ok done) writes same ran = (text : List ℕ) × ((ran ≡ Wrote text) × writes text)
EndsFor (Err (BadLine line)) writes same ran = same × (ran ≡ HasBadLine line)
EndsFor (Err (NoSuchFrame event)) writes same ran = same × (ran ≡ Stopped (HasNoSuchFrame event))
EndsFor (Err (NoSuchSide event)) writes same ran = same × (ran ≡ Stopped (HasNoSuchSide event))
EndsFor (Err (NoSuchAccount event)) writes same ran = same × (ran ≡ Stopped (HasNoSuchAccount event))
EndsFor (Err BadSetup) writes same ran = same × (ran ≡ Stopped HasBadSetup)
EndsFor (Err NoMemory) writes same ran = same × Reads ran
EndsFor (Err (Io error)) writes same ran = WritesNothing ran → same

-- the error that a fault is
abbrev pub error_of : PlayFault → SimError
error_of (HasNoSuchFrame event) = NoSuchFrame event
error_of (HasNoSuchSide event) = NoSuchSide event
error_of (HasNoSuchAccount event) = NoSuchAccount event
error_of (HasNoMemory event) = NoMemory
error_of HasBadSetup = BadSetup

-- the error that a text is which is no script
abbrev pub error_in : ScriptFault → SimError
error_in (IsBadLine line) = BadLine line
error_in IsNoMemory = NoMemory

-- the text that is to be written, or how the run ends without it
abbrev pub Outputs : Result (List ℕ) SimError → Ran → Type 0
Outputs (Ok text) ran = ran ≡ Wrote text
Outputs (Err (BadLine line)) ran = ran ≡ HasBadLine line
Outputs (Err (NoSuchFrame event)) ran = ran ≡ Stopped (HasNoSuchFrame event)
Outputs (Err (NoSuchSide event)) ran = ran ≡ Stopped (HasNoSuchSide event)
Outputs (Err (NoSuchAccount event)) ran = ran ≡ Stopped (HasNoSuchAccount event)
Outputs (Err BadSetup) ran = ran ≡ Stopped HasBadSetup
Outputs (Err NoMemory) ran = Reads ran
Outputs (Err (Io error)) ran = ⊥

-- The input reads as a script, and a report of it has the headline, in its plain words too. The text of that report, with the first event
-- that breaks a premise, is written.
pub record HasHeadline (input : List ℕ) (writes : List ℕ → Type 0) : Type 0 where
  pub script : Script
  pub reads : script_in input ≡ Ok script
  pub report : Report
  pub headline : Headline script.setup script.events report
  pub broken : Option Broken
  pub premises : Premises script.setup script.events broken
  pub plain : IsPlain script.setup script.events report broken
  pub written : writes (report_text report broken)
