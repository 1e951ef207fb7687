-- All lines of an owner, in their order, up to the first that is bad.
use Rattle.std.specs.Prelude.{◌≡◌, ℕ, ◌+◌, List, [], ◌∷◌, ◌++◌, nat_le, Result, Ok, Err}
use Rattle.std.specs.Result.{IsOk}
use Rattle.sms_base.specs.Reading.{◌>>=◌, only_if}
use Rattle.sms_script.specs.Lines.{lines_of}
use Rattle.sms_script.specs.WholeScript.{numbered}
use Rattle.sms_script.specs.declared.fault.LineFault.{LineFault}
use Rattle.sms_script.specs.declared.fault.LineFault.TheVariants.{BadLine as Bad}
use Rattle.sms_script.specs.declared.fault.ScriptFault.{ScriptFault}
use Rattle.sms_script.specs.declared.fault.ScriptFault.TheVariants.{BadLine, NoMemory}
use Rattle.sms_script.specs.declared.owner.act.OwnersAct.{OwnersAct}
use Rattle.sms_script.specs.owner.OwnersLines.{act_at}

abbrev pub most_lines : ℕ
most_lines = 10000

-- the act of the line of that number
unfoldable pub act_numbered : ℕ → List ℕ → Result OwnersAct LineFault
act_numbered number octets = do
  counted ← only_if (nat_le number most_lines) Bad
  act_at octets

-- the acts, with those of the lines that are left
abbrev pub read_lines : ℕ → List OwnersAct → List (List ℕ) → Result (List OwnersAct) ℕ
read_lines number acts [] = Ok acts
read_lines number acts (octets ∷ lines) =
    numbered number (act_numbered number octets) >>= (λ act. read_lines (number + 1) (acts ++ act ∷ []) lines)

-- the acts that the text asks, or the number of its first bad line
unfoldable pub acts_in : List ℕ → Result (List OwnersAct) ℕ
acts_in text = read_lines 1 [] (lines_of text)

-- whether all lines are good, or the number of the first bad one
abbrev pub judge_lines : ℕ → List (List ℕ) → Result (Unit {0}) ℕ
judge_lines number [] = Ok tt
judge_lines number (octets ∷ lines) = numbered number (act_numbered number octets) >>= (λ act. judge_lines (number + 1) lines)

unfoldable pub judge_in : List ℕ → Result (Unit {0}) ℕ
judge_in text = judge_lines 1 (lines_of text)

-- ---- what a call answers

-- the acts, or the number of the bad line; want of memory says nothing
abbrev pub Reads : Result (List OwnersAct) ScriptFault → Result (List OwnersAct) ℕ → Type 0
Reads (Ok acts) read = read ≡ Ok acts
Reads (Err (BadLine number)) read = read ≡ Err number
Reads (Err NoMemory) read = Unit {0}

-- the acts, or the number of the bad line; memory is wanted for good lines alone
abbrev pub ReadsActs : Result (List OwnersAct) ScriptFault → Result (List OwnersAct) ℕ → Type 0
ReadsActs (Ok acts) read = read ≡ Ok acts
ReadsActs (Err (BadLine number)) read = read ≡ Err number
ReadsActs (Err NoMemory) read = IsOk read
