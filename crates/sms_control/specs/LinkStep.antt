-- One transaction that this side began and one that the other side began (3GPP TS 24.011 5.2 and 5.3).
-- A step is what one call does: the state after it, the frames that it sends and what it passes up.
use Rattle.std.specs.Prelude.{ℕ, ◌+◌, ◌%◌, ◌==◌, ◌&&◌, List, [], ◌∷◌, ◌++◌, Bool, false, if◌then◌else◌, Option, Some, None, Result, Ok, Err, is_some, is_none}
use Rattle.std.specs.Option.{option_map}
use Rattle.std.specs.Str.{bytes_eq}
use Rattle.sms_control.specs.declared.cause.CpCause.TheVariants.{InvalidTransactionIdentifier}
use Rattle.sms_control.specs.declared.fault.CpFault.{CpFault}
use Rattle.sms_control.specs.declared.transaction.TransactionFlag.{TransactionFlag}
use Rattle.sms_control.specs.declared.transaction.TransactionFlag.TheVariants.{FromOriginator, ToOriginator}
use Rattle.sms_control.specs.declared.transaction.Transaction.{Transaction}
use Rattle.sms_control.specs.declared.message.Cp.{Cp}
use Rattle.sms_control.specs.declared.message.Cp.TheVariants.{DataUnit, AckUnit, ErrorUnit}
use Rattle.sms_control.specs.declared.link_state.Begun.{Begun}
use Rattle.sms_control.specs.declared.link_state.Answer.{Answer}
use Rattle.sms_control.specs.declared.link_state.Opened.{Opened}
use Rattle.sms_control.specs.declared.link_state.LinkState.{LinkState}
use Rattle.sms_control.specs.declared.out.Out.{Out}
use Rattle.sms_control.specs.declared.out.Up.{Up}
use Rattle.sms_control.specs.declared.out.Up.TheVariants.{Unit as UnitUp, Failed}
use Rattle.sms_control.specs.declared.timers.Firing.{Firing}
use Rattle.sms_control.specs.declared.timers.Firing.TheVariants.{Idle, Again, Closes}
use Rattle.sms_control.specs.ControlGrammar.{turned, spelled}
use Rattle.sms_control.specs.ControlReading.{cp_at}
use Rattle.sms_control.specs.Timers.{tr1, later, first_sending, sent_again, begun_firing, opened_firing}

pub record Step : Type 0 where
  pub state : LinkState
  pub out : Out

-- nothing begun, nothing opened, nothing remembered, identifier 0 next
abbrev pub fresh : LinkState
fresh = record { next_identifier = 0; begun = None; opened = None; last_answer = None; last_opening = None }

-- frames to send, and nothing is passed up
abbrev pub sends : List (List ℕ) → LinkState → Step
sends frames s = record { state = s; out = record { frames = frames; up = None } }

-- nothing at all
abbrev pub quiet : LinkState → Step
quiet s = sends [] s

-- frames to send, and something that is passed up
abbrev pub passes_up : List (List ℕ) → Up → LinkState → Step
passes_up frames up s = record { state = s; out = record { frames = frames; up = Some up } }

-- ---- frames

abbrev pub in_transaction : TransactionFlag → ℕ → Transaction
in_transaction flag identifier = record { flag = flag; identifier = identifier }

-- CP-ACK of a frame, back to its sender
abbrev pub acknowledgement : Transaction → List ℕ
acknowledgement t = spelled (AckUnit (in_transaction (turned t.flag) t.identifier))

-- CP-ERROR for a frame of no transaction
abbrev pub rejection : Transaction → List ℕ
rejection t = spelled (ErrorUnit (in_transaction (turned t.flag) t.identifier) InvalidTransactionIdentifier)

-- ---- begin: a transaction of this side, unless one is under way

abbrev pub is_busy : LinkState → Bool
is_busy s = is_some s.begun

abbrev pub started : ℕ → List ℕ → LinkState → Step
started now frame s =
    sends (frame ∷ []) (record s {
      next_identifier = (s.next_identifier + 1) % 7;
      begun = Some (record { identifier = s.next_identifier; frame = frame; repetition = Some (first_sending now); closes = later now tr1 });
    })

unfoldable pub begin_step : ℕ → List ℕ → LinkState → Step
begin_step now unit s =
    if is_busy s then quiet s else started now (spelled (DataUnit (in_transaction FromOriginator s.next_identifier) unit)) s

-- ---- reply: the answer in the transaction that the other side opened, if it has none yet

abbrev pub answer_of : Option Opened → Option Answer
answer_of None = None
answer_of (Some o) = o.answer

abbrev pub awaits_reply : LinkState → Bool
awaits_reply s = is_some s.opened && is_none (answer_of s.opened)

abbrev pub answered : ℕ → List ℕ → LinkState → Opened → Step
answered now unit s o =
    let frame = spelled (DataUnit (in_transaction ToOriginator o.identifier) unit) in
    sends (frame ∷ []) (record s { opened = Some (record o { answer = Some (record { frame = frame; repetition = first_sending now }) }) })

abbrev pub reply_in : ℕ → List ℕ → LinkState → Option Opened → Step
reply_in now unit s None = quiet s
reply_in now unit s (Some o) = if is_none o.answer then answered now unit s o else quiet s

unfoldable pub reply_step : ℕ → List ℕ → LinkState → Step
reply_step now unit s = reply_in now unit s s.opened

-- ---- take: a frame that arrived

abbrev pub is_same : List ℕ → Option (List ℕ) → Bool
is_same frame None = false
is_same frame (Some other) = bytes_eq frame other

abbrev pub has_begun : ℕ → Option Begun → Bool
has_begun identifier None = false
has_begun identifier (Some b) = identifier == b.identifier

abbrev pub has_opened : ℕ → Option Opened → Bool
has_opened identifier None = false
has_opened identifier (Some o) = identifier == o.identifier

abbrev pub opening_of : Option Opened → Option (List ℕ)
opening_of opened = option_map (λ (o : Opened). o.opening) opened

abbrev pub frames_of : Option Answer → List (List ℕ)
frames_of None = []
frames_of (Some a) = a.frame ∷ []

-- the answer that is not acknowledged yet
abbrev pub answer_frames : Option Opened → List (List ℕ)
answer_frames opened = frames_of (answer_of opened)

-- CP-DATA in a transaction of this side: the answer of the one under way closes it and is remembered. The remembered
-- answer is acknowledged again. Anything else is in no transaction.
abbrev pub answer_taken : List ℕ → List ℕ → Transaction → LinkState → Step
answer_taken frame unit t s =
    if has_begun t.identifier s.begun
    then passes_up (acknowledgement t ∷ []) (UnitUp ToOriginator unit) (record s { begun = None; last_answer = Some frame })
    else (if is_same frame s.last_answer
    then sends (acknowledgement t ∷ []) s
    else sends (rejection t ∷ []) s)

-- CP-DATA in a transaction of the other side. A frame equal to the opening of the present one, or of the last one that
-- CP-ACK closed, is acknowledged again. An unacknowledged answer is sent again. Anything else opens a transaction in
-- place of the present one.
abbrev pub opening_taken : List ℕ → List ℕ → Transaction → LinkState → Step
opening_taken frame unit t s =
    if is_same frame (opening_of s.opened)
    then sends (acknowledgement t ∷ answer_frames s.opened) s
    else (if is_same frame s.last_opening
    then sends (acknowledgement t ∷ []) s
    else passes_up (acknowledgement t ∷ []) (UnitUp FromOriginator unit)
    (record s { opened = Some (record { identifier = t.identifier; opening = frame; answer = None }) }))

abbrev pub data_taken : TransactionFlag → List ℕ → List ℕ → Transaction → LinkState → Step
data_taken ToOriginator frame unit t s = answer_taken frame unit t s
data_taken FromOriginator frame unit t s = opening_taken frame unit t s

-- CP-ACK: stops TC1* of the begun transaction; closes the other side's where it was answered, and remembers its opening.
abbrev pub ack_taken : TransactionFlag → ℕ → LinkState → Step
ack_taken ToOriginator identifier s =
    if has_begun identifier s.begun
    then quiet (record s { begun = option_map (λ (b : Begun). record b { repetition = None }) s.begun })
    else quiet s
ack_taken FromOriginator identifier s =
    if has_opened identifier s.opened && is_some (answer_of s.opened)
    then quiet (record s { opened = None; last_opening = opening_of s.opened })
    else quiet s

-- CP-ERROR: closes its transaction, and nothing is remembered.
abbrev pub error_taken : TransactionFlag → ℕ → LinkState → Step
error_taken ToOriginator identifier s = if has_begun identifier s.begun then passes_up [] Failed (record s { begun = None }) else quiet s
error_taken FromOriginator identifier s = if has_opened identifier s.opened then quiet (record s { opened = None }) else quiet s

-- what is no frame is dropped
abbrev pub frame_taken : List ℕ → LinkState → Result Cp CpFault → Step
frame_taken frame s (Err fault) = quiet s
frame_taken frame s (Ok (DataUnit t unit)) = data_taken t.flag frame unit t s
frame_taken frame s (Ok (AckUnit t)) = ack_taken t.flag t.identifier s
frame_taken frame s (Ok (ErrorUnit t cause)) = error_taken t.flag t.identifier s

unfoldable pub take_step : List ℕ → LinkState → Step
take_step frame s = frame_taken frame s (cp_at frame)

-- ---- fire: the timers at a moment

abbrev pub begun_fired : ℕ → Firing → Option Begun → Option Begun
begun_fired now Idle begun = begun
begun_fired now Again begun = option_map (λ (b : Begun). record b { repetition = option_map (sent_again now) b.repetition }) begun
begun_fired now Closes begun = None

abbrev pub opened_fired : ℕ → Firing → Option Opened → Option Opened
opened_fired now Idle opened = opened
opened_fired now Again opened =
    option_map (λ (o : Opened). record o { answer = option_map (λ (a : Answer). record a { repetition = sent_again now a.repetition }) o.answer }) opened
opened_fired now Closes opened = None

abbrev pub begun_frames : Option Begun → List (List ℕ)
begun_frames None = []
begun_frames (Some b) = b.frame ∷ []

abbrev pub if_again : Firing → List (List ℕ) → List (List ℕ)
if_again Idle frames = []
if_again Again frames = frames
if_again Closes frames = []

-- a begun transaction that a timer closes has failed
abbrev pub failed_by : Firing → Option Up
failed_by Idle = None
failed_by Again = None
failed_by Closes = Some Failed

abbrev pub fired : ℕ → Firing → Firing → LinkState → Step
fired now mine theirs s = record {
  state = record s { begun = begun_fired now mine s.begun; opened = opened_fired now theirs s.opened };
  out = record { frames = if_again mine (begun_frames s.begun) ++ if_again theirs (answer_frames s.opened); up = failed_by mine };
}

unfoldable pub fire_step : ℕ → LinkState → Step
fire_step now s = fired now (begun_firing now s.begun) (opened_firing now s.opened) s
