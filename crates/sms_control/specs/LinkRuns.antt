-- What one side of a link does over a list of calls, as the layer above and the link see it.
use Rattle.std.specs.Prelude.{◌≡◌, ℕ, ◌+◌, ◌<◌, ◌≤◌, ◌⊎◌, List, [], ◌∷◌, Option, Some, None, Ok, IsSome, if◌then◌else◌}
use Rattle.std.specs.Str.{bytes_eq}
use Rattle.sms_control.specs.declared.transaction.TransactionFlag.TheVariants.{FromOriginator, ToOriginator}
use Rattle.sms_control.specs.declared.message.Cp.TheVariants.{DataUnit, AckUnit}
use Rattle.sms_control.specs.declared.link_state.Opened.{Opened}
use Rattle.sms_control.specs.declared.link_state.LinkState.{LinkState}
use Rattle.sms_control.specs.declared.out.Out.{Out}
use Rattle.sms_control.specs.declared.out.Up.{Up}
use Rattle.sms_control.specs.declared.out.Up.TheVariants.{Unit as UnitUp, Failed}
use Rattle.sms_control.specs.ControlGrammar.{spelled}
use Rattle.sms_control.specs.ControlReading.{cp_at}
use Rattle.sms_control.specs.LinkStep.{Step, in_transaction, begin_step, reply_step, take_step, fire_step}

-- a call, with its moment or its octets
pub data Call : Type 0 where
  Begin : ℕ → List ℕ → Call
  Reply : ℕ → List ℕ → Call
  Take : List ℕ → Call
  Fire : ℕ → Call

abbrev pub step : Call → LinkState → Step
step (Begin now unit) s = begin_step now unit s
step (Reply now unit) s = reply_step now unit s
step (Take frame) s = take_step frame s
step (Fire now) s = fire_step now s

-- the state after the calls
abbrev pub run : List Call → LinkState → LinkState
run [] s = s
run (c ∷ cs) s = run cs (step c s).state

-- ---- what is counted

-- a call that is refused sends nothing
abbrev pub some_frame : List (List ℕ) → ℕ
some_frame [] = 0
some_frame (f ∷ fs) = 1

-- a transaction of this side begins
abbrev pub begun_by : Call → Out → ℕ
begun_by (Begin now unit) out = some_frame out.frames
begun_by (Reply now unit) out = 0
begun_by (Take frame) out = 0
begun_by (Fire now) out = 0

-- the other side's unit is answered
abbrev pub replied_by : Call → Out → ℕ
replied_by (Begin now unit) out = 0
replied_by (Reply now unit) out = some_frame out.frames
replied_by (Take frame) out = 0
replied_by (Fire now) out = 0

-- a transaction of this side ends: its answer is passed up, or its failure
abbrev pub ends_by : Option Up → ℕ
ends_by None = 0
ends_by (Some Failed) = 1
ends_by (Some (UnitUp ToOriginator unit)) = 1
ends_by (Some (UnitUp FromOriginator unit)) = 0

-- a unit that opens a transaction of the other side is passed up
abbrev pub opens_by : Option Up → ℕ
opens_by None = 0
opens_by (Some Failed) = 0
opens_by (Some (UnitUp ToOriginator unit)) = 0
opens_by (Some (UnitUp FromOriginator unit)) = 1

-- how often that happens over the calls
abbrev pub tally : (Call → Out → ℕ) → List Call → LinkState → ℕ
tally what [] s = 0
tally what (c ∷ cs) s = what c (step c s).out + tally what cs (step c s).state

abbrev pub begins : List Call → LinkState → ℕ
begins calls s = tally begun_by calls s

abbrev pub replies : List Call → LinkState → ℕ
replies calls s = tally replied_by calls s

abbrev pub ends : List Call → LinkState → ℕ
ends calls s = tally (λ c out. ends_by out.up) calls s

abbrev pub openings : List Call → LinkState → ℕ
openings calls s = tally (λ c out. opens_by out.up) calls s

-- ---- transactions of this side, in turn: while none is under way one may begin, and only what is under way ends

-- CP-DATA that a call of begin sends begins a transaction where none waits for its end; with it waits its identifier.
abbrev pub TurnBegins : List ℕ → List (List ℕ) → Option ℕ → (Option ℕ → Type 0) → Type 0
TurnBegins unit [] waiting Rest = Rest waiting
TurnBegins unit (f ∷ fs) waiting Rest =
    (waiting ≡ None) × ((identifier : ℕ) × (f ∷ fs ≡ spelled (DataUnit (in_transaction FromOriginator identifier) unit) ∷ []) × Rest (Some identifier))

-- What is passed up ends what waits: an answer that fits its identifier, or a failure.
abbrev pub TurnEnds : (ℕ → List ℕ → Type 0) → Option Up → Option ℕ → (Option ℕ → Type 0) → Type 0
TurnEnds Fits None waiting Rest = Rest waiting
TurnEnds Fits (Some (UnitUp FromOriginator unit)) waiting Rest = Rest waiting
TurnEnds Fits (Some (UnitUp ToOriginator unit)) waiting Rest = ((identifier : ℕ) × (waiting ≡ Some identifier) × Fits identifier unit) × Rest None
TurnEnds Fits (Some Failed) waiting Rest = IsSome waiting × Rest None

-- An answer is CP-DATA to the originator with the identifier; a timer gives none.
abbrev pub TakesTurns : List Call → LinkState → Option ℕ → Type 0
TakesTurns [] s waiting = Unit {0}
TakesTurns (Begin now unit ∷ cs) s waiting =
    TurnBegins unit (begin_step now unit s).out.frames waiting (λ next. TakesTurns cs (begin_step now unit s).state next)
TakesTurns (Reply now unit ∷ cs) s waiting = TakesTurns cs (reply_step now unit s).state waiting
TakesTurns (Take frame ∷ cs) s waiting =
    TurnEnds (λ identifier unit. cp_at frame ≡ Ok (DataUnit (in_transaction ToOriginator identifier) unit)) (take_step frame s).out.up waiting
    (λ next. TakesTurns cs (take_step frame s).state next)
TakesTurns (Fire now ∷ cs) s waiting = TurnEnds (λ identifier unit. ⊥) (fire_step now s).out.up waiting (λ next. TakesTurns cs (fire_step now s).state next)

-- ---- frames that timers send again

-- how often the frame is among these
abbrev pub times : List ℕ → List (List ℕ) → ℕ
times frame [] = 0
times frame (f ∷ fs) = (if bytes_eq frame f then 1 else 0) + times frame fs

-- the layer above sends it
abbrev pub sent_by : List ℕ → Call → Out → ℕ
sent_by frame (Begin now unit) out = times frame out.frames
sent_by frame (Reply now unit) out = times frame out.frames
sent_by frame (Take other) out = 0
sent_by frame (Fire now) out = 0

-- a timer sends it
abbrev pub repeated_by : List ℕ → Call → Out → ℕ
repeated_by frame (Begin now unit) out = 0
repeated_by frame (Reply now unit) out = 0
repeated_by frame (Take other) out = 0
repeated_by frame (Fire now) out = times frame out.frames

abbrev pub sendings : List ℕ → List Call → LinkState → ℕ
sendings frame calls s = tally (sent_by frame) calls s

abbrev pub repeats : List ℕ → List Call → LinkState → ℕ
repeats frame calls s = tally (repeated_by frame) calls s

-- ---- the answer that is remembered

-- what is passed up is no answer
abbrev pub IsNoAnswer : Option Up → Type 0
IsNoAnswer None = Unit {0}
IsNoAnswer (Some (UnitUp FromOriginator unit)) = Unit {0}
IsNoAnswer (Some (UnitUp ToOriginator unit)) = ⊥
IsNoAnswer (Some Failed) = Unit {0}

-- no transaction of this side is answered in these calls
abbrev pub NoneAnswered : List Call → LinkState → Type 0
NoneAnswered [] s = Unit {0}
NoneAnswered (c ∷ cs) s = IsNoAnswer (step c s).out.up × NoneAnswered cs (step c s).state

-- ---- repeats of openings

-- The frame is CP-ACK of the other side's transaction, which this opening began and this side answered.
pub record Acknowledges (s : LinkState) (frame opening : List ℕ) : Type 0 where
  pub transaction : Opened
  pub present : s.opened ≡ Some transaction
  pub is_answered : IsSome transaction.answer
  pub is_ack : cp_at frame ≡ Ok (AckUnit (in_transaction FromOriginator transaction.identifier))
  pub opened_it : transaction.opening ≡ opening

abbrev pub IsAcknowledged : Call → LinkState → Type 0
IsAcknowledged (Begin now unit) s = ⊥
IsAcknowledged (Reply now unit) s = ⊥
IsAcknowledged (Take frame) s = (opening : List ℕ) × Acknowledges s frame opening
IsAcknowledged (Fire now) s = ⊥

-- no transaction of the other side is closed by its CP-ACK in these calls
abbrev pub NoneAcknowledged : List Call → LinkState → Type 0
NoneAcknowledged [] s = Unit {0}
NoneAcknowledged (c ∷ cs) s = ¬ IsAcknowledged c s × NoneAcknowledged cs (step c s).state

-- ---- ticks

-- the timers are looked at, once at least, at this moment or past it
abbrev pub FiresPast : ℕ → List Call → Type 0
FiresPast moment [] = ⊥
FiresPast moment (Begin now unit ∷ cs) = FiresPast moment cs
FiresPast moment (Reply now unit ∷ cs) = FiresPast moment cs
FiresPast moment (Take frame ∷ cs) = FiresPast moment cs
FiresPast moment (Fire now ∷ cs) = (moment ≤ now) ⊎ FiresPast moment cs

-- each tick is at a later second than the one before
abbrev pub Rising : ℕ → List Call → Type 0
Rising before [] = Unit {0}
Rising before (Begin now unit ∷ cs) = Rising before cs
Rising before (Reply now unit ∷ cs) = Rising before cs
Rising before (Take frame ∷ cs) = Rising before cs
Rising before (Fire now ∷ cs) = (before < now) × Rising now cs

abbrev pub ticks : List Call → ℕ
ticks [] = 0
ticks (Begin now unit ∷ cs) = ticks cs
ticks (Reply now unit ∷ cs) = ticks cs
ticks (Take frame ∷ cs) = ticks cs
ticks (Fire now ∷ cs) = 1 + ticks cs
