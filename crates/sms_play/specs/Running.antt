-- The text of a script, run: the text of its report, or what is wrong with it.
use Rattle.std.specs.Prelude.{ℕ, List, Option, Result, Ok, Err}
use Rattle.sms_script.specs.declared.report.Broken.{Broken}
use Rattle.sms_script.specs.declared.report.Report.{Report}
use Rattle.sms_script.specs.report.ReportText.{report_text}
use Rattle.sms_script.specs.declared.event.WorldEvent.{WorldEvent}
use Rattle.sms_script.specs.declared.script.Script.{Script}
use Rattle.sms_script.specs.declared.setup.Setup.{Setup}
use Rattle.sms_script.specs.WholeScript.{script_in}
use Rattle.sms_script.specs.declared.play_fault.PlayFault.{PlayFault}
use Rattle.sms_play.specs.Playing.{play_of, premises_of}

pub data Ran : Type 0 where
  -- this is written
  Wrote : List ℕ → Ran
  -- the line of that number may not be there; nothing is written
  BadLine : ℕ → Ran
  -- an event can't be played; nothing is written
  Stopped : PlayFault → Ran

abbrev pub written : Report → Result (Option Broken) PlayFault → Ran
written report (Ok broken) = Wrote (report_text report broken)
written report (Err fault) = Stopped fault

abbrev pub reported : Result Report PlayFault → Result (Option Broken) PlayFault → Ran
reported (Ok report) premises = written report premises
reported (Err fault) premises = Stopped fault

abbrev pub ran : Result Script ℕ → Ran
ran (Ok script) = reported (play_of script.setup script.events) (premises_of script.setup script.events)
ran (Err line) = BadLine line

-- bad lines are reported before all else
abbrev pub run_of : List ℕ → Ran
run_of text = ran (script_in text)
