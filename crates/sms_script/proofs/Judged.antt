-- Whether a text is a script is told without keeping what its lines say.
use Rattle.std.proofs.Common.{◌≡◌, ℕ, Bool, true, false, cond, List, [], ◌∷◌, Result, Ok, Err, refl, subst}
use Rattle.std.specs.Result.{IsOk}
use Rattle.sms_base.specs.Reading.{◌>>=◌}
use Rattle.sms_script.specs.declared.fault.LineFault.{LineFault}
use Rattle.sms_script.specs.declared.line.Line.{Line}
use Rattle.sms_script.specs.declared.progress.Progress.{Progress}
use Rattle.sms_script.specs.declared.script.Script.{Script}
use Rattle.sms_script.specs.Lines.{lines_of}
use Rattle.sms_script.specs.declared.fault.ScriptFault.{ScriptFault}
use Rattle.sms_script.specs.declared.fault.ScriptFault.TheVariants.{BadLine, NoMemory}
use Rattle.sms_script.specs.WholeScript.{Reads, ReadsScript, beginning, blank, is_whole, line_in, with_line, numbered, read_lines, judge_lines, judge_in, script_in}

-- the judgement of a reading
abbrev Agrees : Result (Unit {0}) ℕ → Result Script ℕ → Type 0
Agrees (Ok done) read = IsOk read
Agrees (Err number) read = read ≡ Err number

agree : (progress : Progress) (script : Script) (lines : List (List ℕ)) → Agrees (judge_lines progress lines) (read_lines progress script lines)
agree progress script [] = by (is_whole progress.stage) where
  by : (b : Bool) → Agrees (cond b (Ok tt) (Err progress.number)) (cond b (Ok script) (Err progress.number))
  by true = refl
  by false = refl
agree progress script (octets ∷ lines) = by (line_in progress octets) (λ p s. agree p s lines) where
  by : (r : Result (Progress × Line) LineFault) → ((p : Progress) (s : Script) → Agrees (judge_lines p lines) (read_lines p s lines)) →
      Agrees (numbered progress.number r >>= (λ next. judge_lines next.0 lines)) (numbered progress.number r >>= (λ next. read_lines next.0 (with_line script next.1) lines))
  by (Ok next) again = again next.0 (with_line script next.1)
  by (Err fault) again = refl

pub judged_good : (text : List ℕ) → judge_in text ≡ Ok tt → IsOk (script_in text)
unfolding judge_in script_in
judged_good text e = subst (λ j. Agrees j (read_lines beginning blank (lines_of text))) e (agree beginning blank (lines_of text))

pub judged_bad : (text : List ℕ) (number : ℕ) → judge_in text ≡ Err number → script_in text ≡ Err number
unfolding judge_in script_in
judged_bad text number e = subst (λ j. Agrees j (read_lines beginning blank (lines_of text))) e (agree beginning blank (lines_of text))

pub good_reads : (r : Result Script ScriptFault) (read : Result Script ℕ) → Reads (λ x. x) r read → IsOk read → ReadsScript r read
good_reads (Ok script) read e ok = e
good_reads (Err (BadLine number)) read e ok = e
good_reads (Err NoMemory) read e ok = ok
