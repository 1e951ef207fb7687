-- Whether all lines are good is told without keeping what they say.
use Rattle.std.proofs.Common.{◌≡◌, ℕ, ◌+◌, List, [], ◌∷◌, ◌++◌, Result, Ok, Err, refl, subst}
use Rattle.std.specs.Result.{IsOk}
use Rattle.sms_base.specs.Reading.{◌>>=◌}
use Rattle.sms_script.specs.Lines.{lines_of}
use Rattle.sms_script.specs.WholeScript.{numbered}
use Rattle.sms_script.specs.declared.fault.LineFault.{LineFault}
use Rattle.sms_script.specs.declared.fault.ScriptFault.{ScriptFault}
use Rattle.sms_script.specs.declared.fault.ScriptFault.TheVariants.{BadLine, NoMemory}
use Rattle.sms_script.specs.declared.owner.act.OwnersAct.{OwnersAct}
use Rattle.sms_script.specs.owner.OwnersText.{Reads, ReadsActs, act_numbered, read_lines, judge_lines, judge_in, acts_in}

-- the judgement of a reading
abbrev Agrees : Result (Unit {0}) ℕ → Result (List OwnersAct) ℕ → Type 0
Agrees (Ok done) read = IsOk read
Agrees (Err number) read = read ≡ Err number

agree : (number : ℕ) (acts : List OwnersAct) (lines : List (List ℕ)) → Agrees (judge_lines number lines) (read_lines number acts lines)
agree number acts [] = refl
agree number acts (octets ∷ lines) = by (act_numbered number octets) (λ more. agree (number + 1) more lines) where
  by : (r : Result OwnersAct LineFault) → ((more : List OwnersAct) → Agrees (judge_lines (number + 1) lines) (read_lines (number + 1) more lines)) →
      Agrees (numbered number r >>= (λ act. judge_lines (number + 1) lines)) (numbered number r >>= (λ act. read_lines (number + 1) (acts ++ act ∷ []) lines))
  by (Ok act) again = again (acts ++ act ∷ [])
  by (Err fault) again = refl

pub judged_good : (text : List ℕ) → judge_in text ≡ Ok tt → IsOk (acts_in text)
unfolding judge_in acts_in
judged_good text e = subst (λ j. Agrees j (read_lines 1 [] (lines_of text))) e (agree 1 [] (lines_of text))

pub judged_bad : (text : List ℕ) (number : ℕ) → judge_in text ≡ Err number → acts_in text ≡ Err number
unfolding judge_in acts_in
judged_bad text number e = subst (λ j. Agrees j (read_lines 1 [] (lines_of text))) e (agree 1 [] (lines_of text))

pub good_reads : (r : Result (List OwnersAct) ScriptFault) (read : Result (List OwnersAct) ℕ) → Reads r read → IsOk read → ReadsActs r read
good_reads (Ok acts) read e ok = e
good_reads (Err (BadLine number)) read e ok = e
good_reads (Err NoMemory) read e ok = ok
