-- Reading a whole script: its lines in their order, up to the first that is bad.
use Rattle.std.specs.Prelude.{◌≡◌, ℕ, ◌+◌, List, [], ◌∷◌, ◌++◌, nat_le, nat_lt, Bool, true, false, Result, Ok, Err, if◌then◌else◌}
use Rattle.std.specs.Result.{IsOk}
use Rattle.sms_base.specs.Reading.{◌>>=◌, only_if}
use Rattle.sms_script.specs.Lines.{lines_of}
use Rattle.sms_script.specs.ScriptReading.{line_at}
use Rattle.sms_script.specs.declared.fault.LineFault.{LineFault}
use Rattle.sms_script.specs.declared.fault.LineFault.TheVariants.{BadLine as Bad}
use Rattle.sms_script.specs.declared.fault.ScriptFault.{ScriptFault}
use Rattle.sms_script.specs.declared.fault.ScriptFault.TheVariants.{BadLine, NoMemory}
use Rattle.sms_script.specs.declared.line.Line.{Line}
use Rattle.sms_script.specs.declared.line.Line.TheVariants.{Start, Centre, Account, Handset, Event}
use Rattle.sms_script.specs.declared.progress.Progress.{Progress}
use Rattle.sms_script.specs.declared.progress.Stage.{Stage}
use Rattle.sms_script.specs.declared.progress.Stage.TheVariants.{Start as AtStart, Centre as AtCentre, Accounts as InAccounts, Handsets as InHandsets}
use Rattle.sms_script.specs.declared.progress.Stage.TheVariants.{Events as InEvents}
use Rattle.sms_script.specs.declared.script.Script.{Script}

abbrev pub most_lines : ℕ
most_lines = 20000

abbrev pub most_events : ℕ
most_events = 10000

-- ---- the order of lines

-- the start, the centre, accounts, handsets, events
abbrev pub next_stage : Stage → Line → Result Stage LineFault
next_stage AtStart (Start start) = Ok AtCentre
next_stage AtCentre (Centre number) = Ok InAccounts
next_stage InAccounts (Account account) = Ok InAccounts
next_stage InAccounts (Handset handset) = Ok InHandsets
next_stage InAccounts (Event event) = Ok InEvents
next_stage InHandsets (Handset handset) = Ok InHandsets
next_stage InHandsets (Event event) = Ok InEvents
next_stage InEvents (Event event) = Ok InEvents
next_stage _ _ = Err Bad

-- a script has its start and its centre
abbrev pub is_whole : Stage → Bool
is_whole AtStart = false
is_whole AtCentre = false
is_whole InAccounts = true
is_whole InHandsets = true
is_whole InEvents = true

-- events are counted up to their limit
abbrev pub events_in : ℕ → Line → Result ℕ LineFault
events_in events (Event event) = if nat_lt events most_events then Ok (events + 1) else Err Bad
events_in events (Start start) = Ok events
events_in events (Centre number) = Ok events
events_in events (Account account) = Ok events
events_in events (Handset handset) = Ok events

abbrev pub beginning : Progress
beginning = record { number = 1; stage = AtStart; events = 0 }

-- what the next line says, and how far the script is read then
unfoldable pub line_in : Progress → List ℕ → Result (Progress × Line) LineFault
line_in progress octets = do
  counted ← only_if (nat_le progress.number most_lines) Bad
  line ← line_at octets
  stage ← next_stage progress.stage line
  events ← events_in progress.events line
  Ok (record { number = progress.number + 1; stage = stage; events = events }, line)

-- ---- scripts

abbrev pub blank : Script
blank = record { setup = record { start = 0; centre = []; accounts = []; handsets = [] }; events = [] }

-- what a line adds to a script
abbrev pub with_line : Script → Line → Script
with_line script (Start start) = record script { setup = record script.setup { start = start } }
with_line script (Centre number) = record script { setup = record script.setup { centre = number } }
with_line script (Account account) = record script { setup = record script.setup { accounts = script.setup.accounts ++ account ∷ [] } }
with_line script (Handset handset) = record script { setup = record script.setup { handsets = script.setup.handsets ++ handset ∷ [] } }
with_line script (Event event) = record script { events = script.events ++ event ∷ [] }

-- a fault of the line of that number
abbrev pub numbered : {X : Type 0} → ℕ → Result X LineFault → Result X ℕ
numbered number (Ok x) = Ok x
numbered number (Err fault) = Err number

-- the script, with what is left of its lines; a line that is missing is the one behind the last
abbrev pub read_lines : Progress → Script → List (List ℕ) → Result Script ℕ
read_lines progress script [] = if is_whole progress.stage then Ok script else Err progress.number
read_lines progress script (octets ∷ lines) =
    numbered progress.number (line_in progress octets) >>= (λ next. read_lines next.0 (with_line script next.1) lines)

-- the script that the text is, or the number of its first bad line
unfoldable pub script_in : List ℕ → Result Script ℕ
script_in text = read_lines beginning blank (lines_of text)

-- whether the lines are those of a script, or the number of the first bad line
abbrev pub judge_lines : Progress → List (List ℕ) → Result (Unit {0}) ℕ
judge_lines progress [] = if is_whole progress.stage then Ok tt else Err progress.number
judge_lines progress (octets ∷ lines) = numbered progress.number (line_in progress octets) >>= (λ next. judge_lines next.0 lines)

unfoldable pub judge_in : List ℕ → Result (Unit {0}) ℕ
judge_in text = judge_lines beginning (lines_of text)

-- ---- what a call answers

-- the script, or the number of the bad line; want of memory says nothing
abbrev pub Reads : {X Y : Type 0} → (X → Y) → Result X ScriptFault → Result Y ℕ → Type 0
Reads view (Ok script) read = read ≡ Ok (view script)
Reads view (Err (BadLine number)) read = read ≡ Err number
Reads view (Err NoMemory) read = Unit {0}

-- the script, or the number of the bad line; memory is wanted for a good script alone
abbrev pub ReadsScript : Result Script ScriptFault → Result Script ℕ → Type 0
ReadsScript (Ok script) read = read ≡ Ok script
ReadsScript (Err (BadLine number)) read = read ≡ Err number
ReadsScript (Err NoMemory) read = IsOk read

-- this script, unless memory was wanted
abbrev pub IsReadAs : Script → Result Script ScriptFault → Type 0
IsReadAs script (Ok read) = read ≡ script
IsReadAs script (Err (BadLine number)) = ⊥
IsReadAs script (Err NoMemory) = Unit {0}
