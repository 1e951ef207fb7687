-- What is written of a script is the text of a report that has the headline.
use Rattle.sms_play.specs.Playing.{play_of, premises_of}
use Rattle.sms_play.specs.Running.{Wrote, ran, reported, run_of, written}
use Rattle.sms_script.specs.declared.play_fault.PlayFault.{PlayFault}
use Rattle.sms_script.specs.WholeScript.{script_in}
use Rattle.sms_script.specs.declared.report.Broken.{Broken}
use Rattle.sms_script.specs.declared.report.Report.{Report}
use Rattle.sms_script.specs.declared.script.Script.{Script}
use Rattle.sms_script.specs.report.ReportText.{report_text}
use Rattle.sms_world.proofs.headline.ExactPremises.{premises_are}
use Rattle.sms_world.proofs.headline.GoodScripts.{script_typed}
use Rattle.sms_world.proofs.headline.HeadlineHolds.{headline_is}
use Rattle.sms_world.proofs.headline.PlainWhole.{plainly}
use Rattle.sms_world.specs.declared.running.run.SimError.{SimError}
use Rattle.sms_world.specs.running.RunEnd.{EndsFor, HasHeadline, Outputs}
use Rattle.std.proofs.Common.{refl, subst, sym}
use Rattle.std.specs.Prelude.{Err, IfOk, IfSome, List, None, Ok, Option, Result, Some, ℕ, ◌≡◌}

wrote_same : (a b : List ℕ) → Wrote a ≡ Wrote b → a ≡ b
wrote_same a b e = cc

module _ (input text : List ℕ) (writes : List ℕ → Type 0) (was : writes text) where
  by_premises : (script : Script) → script_in input ≡ Ok script → (report : Report) → play_of script.setup script.events ≡ Ok report → (p : Result (Option Broken) PlayFault)
      → premises_of script.setup script.events ≡ p → written report p ≡ Wrote text → HasHeadline input writes
  by_premises script reads report plays (Ok broken) is e = record {
    script = script;
    reads = reads;
    report = report;
    headline = headline_is script.setup script.events report (script_typed input script reads) plays;
    broken = broken;
    premises = premises_are script.setup script.events broken is;
    plain = plainly script.setup script.events report broken (script_typed input script reads) plays is;
    written = subst (λ (t : List ℕ). writes t) (sym (wrote_same (report_text report broken) text e)) was;
  }
  by_premises script reads report plays (Err fault) is e = absurd cc

  by_play : (script : Script) → script_in input ≡ Ok script → (r : Result Report PlayFault) → play_of script.setup script.events ≡ r → reported r (premises_of script.setup script.events) ≡ Wrote text
      → HasHeadline input writes
  by_play script reads (Ok report) is e = by_premises script reads report is (premises_of script.setup script.events) refl e
  by_play script reads (Err fault) is e = absurd cc

  by_script : (r : Result Script ℕ) → script_in input ≡ r → ran r ≡ Wrote text → HasHeadline input writes
  by_script (Ok script) reads e = by_play script reads (play_of script.setup script.events) refl e
  by_script (Err line) reads e = absurd cc

pub headline_reported : (o : Option (List ℕ)) (r : Result (Unit {0}) SimError) (writes : List ℕ → Type 0) (same : Type 0) → IfSome o (λ input. EndsFor r writes same (run_of input))
    → IfSome o (λ input. IfOk r (λ done. HasHeadline input writes))
headline_reported None r writes same e = tt
headline_reported (Some input) (Ok done) writes same (text, (is, was)) = by_script input text writes was (script_in input) refl is
headline_reported (Some input) (Err error) writes same e = tt

-- the same of a text that nobody has written yet
pub headline_made : (input : List ℕ) (r : Result (List ℕ) SimError) → Outputs r (run_of input) → IfOk r (λ text. HasHeadline input (λ written. written ≡ text))
headline_made input (Ok text) is = by_script input text (λ t. t ≡ text) refl (script_in input) refl is
headline_made input (Err error) is = tt
