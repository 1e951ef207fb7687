-- Which steps an event of a script may be. What the world is doing and when is the script's choice alone: any list of events
-- is a script.
use Rattle.std.specs.Prelude.{◌≡◌, ◌⊎◌, ℕ, List, [], ◌∷◌, ◌++◌, Bool, true, false}
use Rattle.sms_base.specs.Among.{Among}
use Rattle.sms_world_model.specs.WorldStep.{Acknowledged, Again, Close, Control, Delete, Expire, Fail, Join, Lapse, Memory_free, Offer, Offer_memory, Offer_up}
use Rattle.sms_world_model.specs.WorldStep.{Receipt, Receive, Refuse, Refused, Reject, Remove, Repeat_memory, Settle, Status, Step, Submit, Take, Take_again}
use Rattle.sms_world_model.specs.WorldStep.{Write, Item, Run, end}
use Rattle.sms_world_model.specs.World.{Carried, Frame, OutEntry, World}
use Rattle.sms_world_model.specs.Submission.{Submission}
use Rattle.sms_world_model.specs.References.{Ticket}

-- an application submits, cancels or asks; a frame is handed over; a side's timers fire; an owner writes or removes; a side
-- restarts
pub data Event : Type 0 where
  Submitted : Event
  Cancelled : Event
  Asked : Event
  Handed : (number : ℕ) → Event
  Tick_centre : Event
  Tick_handset : Event
  Wrote : Event
  -- an entry is deleted, or a group discarded
  Removed : Event
  Restarted : Event

-- how an event went: to its end, or stopped before its store call, or after it
pub data Went : Type 0 where
  Whole : Went
  Before : Went
  After : Went

-- an event, how it went and when
pub record Happening : Type 0 where
  pub event : Event
  pub went : Went
  -- the centre's now
  pub moment : ℕ

abbrev pub items : ℕ → Bool → List Step → List Item
items moment stopped [] = []
items moment stopped (s ∷ ss) = record { step = s; moment = moment; stopped = stopped } ∷ items moment stopped ss

-- ---- kinds of steps

-- copies, CP-ACKs and CP-ERRORs: they change the bag alone
abbrev pub IsControl : Step → Type 0
IsControl (Again u) = Unit {0}
IsControl (Control handset) = Unit {0}
IsControl _ = ⊥

-- steps that read no frame and may follow the event's own
abbrev pub Follows : Step → Type 0
Follows (Offer g tpdu) = Unit {0}
Follows (Offer_up g e tpdu) = Unit {0}
Follows (Offer_memory handset number r) = Unit {0}
Follows (Repeat_memory g number) = Unit {0}
Follows (Receipt s f) = Unit {0}
Follows (Status s f t) = Unit {0}
Follows (Close id) = Unit {0}
Follows (Join j) = Unit {0}
Follows (Lapse e st) = Unit {0}
Follows (Again u) = Unit {0}
Follows (Control handset) = Unit {0}
Follows _ = ⊥

abbrev pub IsExpiry : Step → Type 0
IsExpiry (Expire id) = Unit {0}
IsExpiry _ = ⊥

-- in a Tick of the centre expiries and what follows have any order
abbrev pub MayFollow : Event → Step → Type 0
MayFollow Tick_centre s = Follows s ⊎ IsExpiry s
MayFollow event s = Follows s

-- the step reads this frame
abbrev pub Reads : Frame → Step → Type 0
Reads v (Take u) = u ≡ v
Reads v (Take_again u) = u ≡ v
Reads v (Refuse u) = u ≡ v
Reads v (Settle u g id n) = u ≡ v
Reads v (Fail u g id n) = u ≡ v
Reads v (Receive u s tickets) = u ≡ v
Reads v (Reject u) = u ≡ v
Reads v (Memory_free u) = u ≡ v
Reads v (Acknowledged u g e) = u ≡ v
Reads v (Refused u g e st) = u ≡ v
Reads v _ = ⊥

-- ---- events

abbrev pub AllControl : List Step → Type 0
AllControl [] = Unit {0}
AllControl (s ∷ ss) = IsControl s × AllControl ss

abbrev pub AllMayFollow : Event → List Step → Type 0
AllMayFollow event [] = Unit {0}
AllMayFollow event (s ∷ ss) = MayFollow event s × AllMayFollow event ss

abbrev pub AllWrite : List Step → Type 0
AllWrite [] = Unit {0}
AllWrite (s ∷ ss) = ((e : OutEntry) × (r : ℕ) × (s ≡ Write e r)) × AllWrite ss

-- what an event does itself; a frame that is handed over is one of the bag
abbrev pub IsOwn : World → Event → List Step → Type 0
IsOwn w Submitted own = (own ≡ []) ⊎ ((s : Submission) × (tickets : List Ticket) × (own ≡ Submit s tickets ∷ []))
IsOwn w Cancelled own = (own ≡ []) ⊎ ((id : ℕ) × (own ≡ Delete id ∷ []))
IsOwn w Asked own = own ≡ []
IsOwn w (Handed n) own =
    (own ≡ []) ⊎ ((u : Frame) × (s : Step) × (Among (Carried u) w.bag × (u.number ≡ n) × Reads u s × (own ≡ s ∷ [])))
IsOwn w Tick_centre own = own ≡ []
IsOwn w Tick_handset own = own ≡ []
IsOwn w Wrote own = AllWrite own
IsOwn w Removed own = (own ≡ []) ⊎ ((e : OutEntry) × (own ≡ Remove e ∷ []))
IsOwn w Restarted own = own ≡ []

-- The event's own steps are first but for control frames, and then what follows.
abbrev pub IsInOrder : World → Event → List Step → Type 0
IsInOrder w event steps =
    (control : List Step) × (own : List Step) × (follows : List Step)
    × (AllControl control × IsOwn w event own × AllMayFollow event follows × (steps ≡ control ++ (own ++ follows)))

-- the steps of a whole event
abbrev pub IsPlayed : World → Event → List Step → Type 0
IsPlayed w Asked steps = steps ≡ []
IsPlayed w Restarted steps = steps ≡ []
IsPlayed w event steps = IsInOrder w event steps

-- ---- scripts

abbrev pub is_stopped : Went → Bool
is_stopped Whole = false
is_stopped Before = true
is_stopped After = true

-- A stopped event is played whole, and its frames are kept back, or not at all.
abbrev pub Belongs : World → Happening → Went → List Step → Type 0
Belongs w h Whole steps = IsPlayed w h.event steps
Belongs w h After steps = IsPlayed w h.event steps
Belongs w h Before steps = steps ≡ []

abbrev pub happened : Happening → List Step → List Item
happened h steps = items h.moment (is_stopped h.went) steps

-- the events may lead from one world to the other
abbrev pub Plays : World → List Happening → World → Type 0
Plays w [] v = w ≡ v
Plays w (h ∷ hs) v =
    (steps : List Step) × (Belongs w h h.went steps × Run w (happened h steps) × Plays (end w (happened h steps)) hs v)
