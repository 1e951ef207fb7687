-- How a run ends.
use Rattle.std.specs.Prelude.{◌≡◌, ℕ, List, Result, Ok, Err}
use Rattle.std.specs.Result.{IsErr, IsOk}
use Rattle.sms_relay_run.specs.declared.run.RunError.{RunError}
use Rattle.sms_relay_run.specs.declared.run.RunError.TheVariants.{BadLine, NoMemory, Io}

-- A bad line is reported by its number and want of memory only of a good line, both before anything is written. A read
-- or a write that failed may be reported of any input, but for a bad line nothing is written then either. `same` says that
-- the writer is as it was, `judged` is what the line reads as.
abbrev pub EndsFor : Result (Unit {0}) RunError → Type 0 → Result (List ℕ) ℕ → Type 0
EndsFor (Ok done) same judged = IsOk judged
EndsFor (Err (BadLine line)) same judged = same × (judged ≡ Err line)
EndsFor (Err NoMemory) same judged = same × IsOk judged
EndsFor (Err (Io error)) same judged = IsErr judged → same
