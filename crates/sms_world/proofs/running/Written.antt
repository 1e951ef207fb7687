-- How a run over the text of a script ends, by how its calls end.
use Rattle.std.proofs.Common.{◌≡◌, ℕ, List, sym, subst, ap, ◌∙◌, Option, Result, Ok, Err}
use Rattle.std.specs.Prelude.{IfOk, IsOk}
use Rattle.sms_play.specs.Playing.{play_of, premises_of}
use Rattle.sms_play.specs.Running.{Ran, Stopped, Wrote, ran, reported, run_of}
use Rattle.sms_script.specs.declared.play_fault.PlayFault.{PlayFault}
use Rattle.sms_script.specs.declared.play_fault.PlayFault.TheVariants.{BadSetup, NoMemory, NoSuchAccount, NoSuchFrame, NoSuchSide}
use Rattle.sms_player.specs.playing.Playing.{or_no_memory}
use Rattle.sms_script.specs.report.ReportText.{report_text}
use Rattle.sms_script.specs.declared.report.Broken.{Broken}
use Rattle.sms_script.specs.declared.report.Report.{Report}
use Rattle.sms_world.specs.running.Reporting.{ReportsAs, Reports}
use Rattle.sms_world.specs.running.RunEnd.{EndsFor, Outputs, Reads, error_in, error_of, text_of_report}
use Rattle.sms_world.specs.declared.running.run.SimError.{SimError}
use Rattle.sms_world.specs.declared.running.run.SimError.TheVariants.{BadLine as IsBadLine, BadSetup as IsBadSetup, Io as IsIo, NoMemory as IsNoMemory, NoSuchAccount as IsNoSuchAccount, NoSuchFrame as IsNoSuchFrame, NoSuchSide as IsNoSuchSide}
use Rattle.sms_script.specs.declared.fault.ScriptFault.{ScriptFault}
use Rattle.sms_script.specs.declared.fault.ScriptFault.TheVariants.{BadLine as HasBadLineAt, NoMemory as HasNoMemory}
use Rattle.sms_script.specs.declared.script.Script.{Script}
use Rattle.sms_script.specs.WholeScript.{ReadsScript, script_in}

-- ---- the text of a report

text_made : {E : Type 0} (res : Result (List ℕ) E) (event : ℕ) (wanted : List ℕ) → IfOk res (λ text. text ≡ wanted) → Reports (or_no_memory event res) (Ok wanted)
text_made (Ok text) event wanted is = ap (λ (t : List ℕ). Ok t) (sym is)
text_made (Err e) event wanted is = tt

module _ (report : Report) (broken : Option Broken) (w : Result Report PlayFault) (p : Result (Option Broken) PlayFault) (leads : w ≡ Ok report) (breaks : p ≡ Ok broken) where
  text_is : text_of_report w p ≡ Ok (report_text report broken)
  text_is = ap (λ (x : Result Report PlayFault). text_of_report x p) leads ∙ ap (λ (x : Result (Option Broken) PlayFault). text_of_report (Ok report) x) breaks

  pub text_given : {E : Type 0} (res : Result (List ℕ) E) (told : Result (List ℕ) PlayFault) (event : ℕ) → told ≡ or_no_memory event res → IfOk res (λ text. text ≡ report_text report broken) → Reports told (text_of_report w p)
  text_given res told event e is =
      subst (λ (x : Result (List ℕ) PlayFault). Reports told x) (sym text_is)
      (subst (λ (t : Result (List ℕ) PlayFault). Reports t (Ok (report_text report broken))) (sym e) (text_made res event (report_text report broken) is))

untold : (p : Result (Option Broken) PlayFault) (fault : PlayFault) (wanted : Result Report PlayFault) → wanted ≡ Err fault → text_of_report wanted p ≡ Err fault
untold p fault wanted e = ap (λ (w : Result Report PlayFault). text_of_report w p) e

pub no_text : {X : Type 0} (part : X → Report) (p : Result (Option Broken) PlayFault) (fault : PlayFault) (wanted : Result Report PlayFault) → ReportsAs part (Err fault) wanted → Reports {X = List ℕ} (Err fault) (text_of_report wanted p)
no_text part p (NoMemory event) wanted is = tt
no_text part p (NoSuchFrame event) wanted is = untold p (NoSuchFrame event) wanted is
no_text part p (NoSuchSide event) wanted is = untold p (NoSuchSide event) wanted is
no_text part p (NoSuchAccount event) wanted is = untold p (NoSuchAccount event) wanted is
no_text part p BadSetup wanted is = untold p BadSetup wanted is

-- ---- what is written of a script

ok_same : (x y : List ℕ) → ◌≡◌ {A = Result (List ℕ) PlayFault} (Ok x) (Ok y) → x ≡ y
ok_same x y e = cc

err_same : (x y : PlayFault) → ◌≡◌ {A = Result (List ℕ) PlayFault} (Err x) (Err y) → x ≡ y
err_same x y e = cc

ok_err : (x : List ℕ) (y : PlayFault) → ◌≡◌ {A = Result (List ℕ) PlayFault} (Ok x) (Err y) → ⊥
ok_err x y e = absurd cc

err_ok : (x : PlayFault) (y : List ℕ) → ◌≡◌ {A = Result (List ℕ) PlayFault} (Err x) (Ok y) → ⊥
err_ok x y e = absurd cc

pub writes : (w : Result Report PlayFault) (p : Result (Option Broken) PlayFault) (text : List ℕ) → text_of_report w p ≡ Ok text → reported w p ≡ Wrote text
writes (Ok report) (Ok broken) text e = ap (λ (t : List ℕ). Wrote t) (ok_same (report_text report broken) text e)
writes (Ok report) (Err fault) text e = absurd (err_ok fault text e)
writes (Err fault) p text e = absurd (err_ok fault text e)

stops : (w : Result Report PlayFault) (p : Result (Option Broken) PlayFault) (fault : PlayFault) → text_of_report w p ≡ Err fault → reported w p ≡ Stopped fault
stops (Ok report) (Ok broken) fault e = absurd (ok_err (report_text report broken) fault e)
stops (Ok report) (Err other) fault e = ap (λ (f : PlayFault). Stopped f) (err_same other fault e)
stops (Err other) p fault e = ap (λ (f : PlayFault). Stopped f) (err_same other fault e)

reads : (w : Result Report PlayFault) (p : Result (Option Broken) PlayFault) → Reads (reported w p)
reads (Ok report) (Ok broken) = tt
reads (Ok report) (Err fault) = tt
reads (Err fault) p = tt

pub stops_by : (w : Result Report PlayFault) (p : Result (Option Broken) PlayFault) (fault : PlayFault) → Reports {X = List ℕ} (Err fault) (text_of_report w p) → Outputs (Err (error_of fault)) (reported w p)
stops_by w p (NoMemory event) is = reads w p
stops_by w p (NoSuchFrame event) is = stops w p (NoSuchFrame event) is
stops_by w p (NoSuchSide event) is = stops w p (NoSuchSide event) is
stops_by w p (NoSuchAccount event) is = stops w p (NoSuchAccount event) is
stops_by w p BadSetup is = stops w p BadSetup is

-- ---- what is written for a text

reads_script : (read : Result Script ℕ) → IsOk read → Reads (ran read)
reads_script (Ok script) good = reads_played script
  where
    reads_played : (script : Script) → Reads (ran (Ok script))
    reads_played script = reads (play_of script.setup script.events) (premises_of script.setup script.events)
reads_script (Err line) good = absurd cc

wants_memory : (text : List ℕ) → IsOk (script_in text) → Reads (run_of text)
wants_memory text good = reads_script (script_in text) good

pub misread : (fault : ScriptFault) (text : List ℕ) → ReadsScript (Err fault) (script_in text) → Outputs (Err (error_in fault)) (run_of text)
misread (HasBadLineAt line) text is = ap (λ (read : Result Script ℕ). ran read) is
misread HasNoMemory text is = wants_memory text is

-- ---- how the run ends

pub ends_by : (error : SimError) (written : List ℕ → Type 0) (same : Type 0) (how : Ran) → same → Outputs (Err error) how → EndsFor (Err error) written same how
ends_by (IsBadLine line) written same how s is = (s, is)
ends_by (IsNoSuchFrame event) written same how s is = (s, is)
ends_by (IsNoSuchSide event) written same how s is = (s, is)
ends_by (IsNoSuchAccount event) written same how s is = (s, is)
ends_by IsBadSetup written same how s is = (s, is)
ends_by IsNoMemory written same how s is = (s, is)
ends_by (IsIo error) written same how s is = absurd is
