-- What the claims speak of: the centre's table, the handsets and every frame that was ever sent. Lists are newest first.
-- A handset is named by its digits.
use Rattle.std.specs.Prelude.{◌≡◌, ◌⊎◌, ℕ, ◌+◌, List, [], ◌∷◌, if◌then◌else◌, ◌==◌, Option, Some, None, length, Bool}
use Rattle.sms_base.specs.Among.{Among}
use Rattle.sms_base.specs.declared.address.Address.{Address}
use Rattle.sms_base.specs.declared.carried.Kind.{Kind}
use Rattle.sms_base.specs.declared.final_state.FinalState.{FinalState}
use Rattle.sms_base.specs.declared.holder.Holder.{Holder}
use Rattle.sms_base.specs.declared.holder.Holder.TheVariants.{Part, Report, Entry, Memory}
use Rattle.sms_concat.specs.declared.content.Content.{Content}
use Rattle.sms_tpdu.specs.declared.user_data.UserData.{UserData}
use Rattle.std.specs.Str.{bytes_eq}
use Rattle.sms_world_model.specs.Place.{Key}
use Rattle.sms_world_model.specs.Submission.{Submission}
use Rattle.sms_tpdu.specs.MoreMessages.{compared}

-- two handsets of the same digits are one
abbrev pub is_same_handset : List ℕ → List ℕ → Bool
is_same_handset a b = bytes_eq a b

-- a message waits for its parts, or has ended (SMPP v3.4 5.2.28, message_state)
pub data State : Type 0 where
  -- with the numbers of the parts that are done
  Pending : List ℕ → State
  Final : FinalState → State

pub record Message : Type 0 where
  pub submission : Submission
  pub state : State

-- A reference (3GPP TS 24.011 8.2.3, RP-Message Reference) that was given to a holder. A holder is a part, a status report, an
-- entry of an outbox or an RP-SMMA. The moment is the second of the giving, which a DELIVER has as its time stamp.
pub record Allocation : Type 0 where
  pub handset : List ℕ
  pub reference : ℕ
  pub holder : Holder
  pub moment : ℕ
  -- by the centre: the TPDU that is offered for the holder from now on, as TPDUs are compared
  pub tpdu : List ℕ

-- the side that took the reference: Down is the centre. It sends data, and answers are sent to it
pub data Line : Type 0 where
  Down : Line
  Up : Line

-- a unit of the relay layer under way. Data carry a TPDU, or none (RP-SMMA)
pub record Frame : Type 0 where
  pub number : ℕ
  pub handset : List ℕ
  pub line : Line
  pub kind : Kind
  pub reference : ℕ
  pub tpdu : List ℕ
  pub tag : Holder

-- CP-ACK and CP-ERROR carry nothing
pub data Sent : Type 0 where
  Carried : Frame → Sent
  Bare : (number : ℕ) → (handset : List ℕ) → Sent

-- a TPDU that a handset accepted under a reference, as TPDUs are compared
pub record Accepted : Type 0 where
  pub handset : List ℕ
  pub reference : ℕ
  pub tpdu : List ℕ

-- a message that a handset joined: from which group, and how many groups of that key had ended there before
pub record Joined : Type 0 where
  pub handset : List ℕ
  pub key : Key
  pub place : ℕ
  pub group : List Accepted
  pub content : Content

-- how far an entry of a handset's outbox is
pub data EntryState : Type 0 where
  Queued : EntryState
  Sending : EntryState
  Sent_up : EntryState
  Failed : EntryState
  Unsure : EntryState

-- a message, or a part of one, that the owner of a handset wrote
pub record OutEntry : Type 0 where
  pub handset : List ℕ
  pub number : ℕ
  pub destination : Address
  pub user_data : UserData
  pub state : EntryState

-- a receipt (SMPP v3.4 appendix B) or a status report about a message that ended
pub record ReceiptOf : Type 0 where
  pub id : ℕ
  pub state : FinalState

pub record World : Type 0 where
  pub table : List Message
  pub receipts : List ReceiptOf
  -- the ids of status reports that are neither answered nor dropped
  pub reports : List ℕ
  -- references taken by the centre, and by the handsets
  pub down : List Allocation
  pub up : List Allocation
  pub accepted : List Accepted
  pub joined : List Joined
  pub outbox : List OutEntry
  pub bag : List Sent

abbrev pub empty : World
empty = record { table = []; receipts = []; reports = []; down = []; up = []; accepted = []; joined = []; outbox = []; bag = [] }

-- the message of an id
abbrev pub find : ℕ → List Message → Option Message
find id [] = None
find id (e ∷ es) = if e.submission.id == id then Some e else find id es

-- the message of that id is this one, in this state
abbrev pub IsRecorded : List Message → ℕ → Submission → State → Type 0
IsRecorded table id s st = find id table ≡ Some (record { submission = s; state = st })

-- the table with another state of one message
abbrev pub changed : ℕ → (Message → State) → List Message → List Message
changed id f [] = []
changed id f (e ∷ es) = (if e.submission.id == id then record { submission = e.submission; state = f e } else e) ∷ changed id f es

-- two allocations of one reference at one handset
abbrev pub SameReference : Allocation → Allocation → Type 0
SameReference g x = (g.handset ≡ x.handset) × (g.reference ≡ x.reference)

-- the latest giving of its reference at its handset
abbrev pub IsLatest : Allocation → List Allocation → Type 0
IsLatest g [] = ⊥
IsLatest g (x ∷ older) = (g ≡ x) ⊎ (¬ SameReference g x × IsLatest g older)

-- the last accepted under its reference at its handset
abbrev pub IsLast : Accepted → List Accepted → Type 0
IsLast p [] = ⊥
IsLast p (x ∷ older) = (p ≡ x) ⊎ (¬ ((p.handset ≡ x.handset) × (p.reference ≡ x.reference)) × IsLast p older)

-- a part that is pending and not done, or an open status report
abbrev pub IsUnanswered : List Message → List ℕ → Holder → Type 0
IsUnanswered table reports (Part id n) = (s : Submission) × (done : List ℕ) × (IsRecorded table id s (Pending done) × ¬ Among n done)
IsUnanswered table reports (Report id) = Among id reports
IsUnanswered table reports (Entry n) = ⊥
IsUnanswered table reports (Memory n) = ⊥

-- a reference that is held at a handset by a part or a status report
abbrev pub IsHeld : World → Allocation → Type 0
IsHeld w g = Among g w.down × IsUnanswered w.table w.reports g.holder

abbrev pub IsUnfinished : EntryState → Type 0
IsUnfinished Queued = Unit {0}
IsUnfinished Sending = Unit {0}
IsUnfinished Sent_up = ⊥
IsUnfinished Failed = ⊥
IsUnfinished Unsure = ⊥

-- the reference of an unfinished entry
abbrev pub IsHeldUp : World → Allocation → OutEntry → Type 0
IsHeldUp w g e = Among g w.up × Among e w.outbox × (g.handset ≡ e.handset) × (g.holder ≡ Entry e.number) × IsUnfinished e.state

-- a frame is sent; it never leaves the bag, and may be handed over at any time and any number of times, or never
abbrev pub put : World → Frame → World
put w u = record w { bag = Carried u ∷ w.bag }

-- the answer to a frame has its tag
abbrev pub answer : Frame → Kind → ℕ → Frame
answer u kind number = record { number = number; handset = u.handset; line = u.line; kind = kind; reference = u.reference; tpdu = []; tag = u.tag }

-- what a handset compares and keeps of data that it received
abbrev pub pair_of : Frame → Accepted
pair_of u = record { handset = u.handset; reference = u.reference; tpdu = compared u.tpdu }

-- the pair that is offered for a giving
abbrev pub pair_given : Allocation → Accepted
pair_given g = record { handset = g.handset; reference = g.reference; tpdu = g.tpdu }

abbrev pub next_number : World → ℕ
next_number w = length w.bag + 1

abbrev pub give : World → Allocation → World
give w g = record w { down = g ∷ w.down }

-- the world, with the frames of another
abbrev pub with_frames : List Sent → World → World
with_frames bag w = record w { bag = bag }
