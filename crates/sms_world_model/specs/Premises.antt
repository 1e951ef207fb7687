-- The two premises of the claims. Timely: whenever a frame is handed over, the latest giving of its reference on its line is to the holder
-- for which it was made. Fresh: a source begins a new round of a key only when the handset has accepted the whole of the round before. A
-- concatenation reference is not reused while its message is under way (3GPP TS 23.040 9.2.3.24.1).
use Rattle.std.specs.Prelude.{◌≡◌, List, [], ◌∷◌, ℕ, suc, ◌<◌, ◌≤◌, true}
use Rattle.sms_world_model.specs.WorldStep.{Acknowledged, Settle, Step, Take, Item, after_item, Receive, Submit, Run, end}
use Rattle.sms_world_model.specs.World.{Down, Frame, Allocation, IsLatest, Line, Up, World, Accepted, pair_given, Carried}
use Rattle.sms_base.specs.Among.{Among}
use Rattle.sms_world_model.specs.Place.{Key}
use Rattle.sms_world_model.specs.Submission.{Submission}
use Rattle.sms_world_model.specs.References.{Ticket, part_allocation}
use Rattle.sms_world_model.specs.Groups.{is_among, is_for, number_in, numbers, of_key, rounds_of}
use Rattle.sms_world_model.specs.ScriptRun.{Belongs, Event, Handed, Happening, happened}

-- ---- timely frames

abbrev pub allocations : World → Line → List Allocation
allocations w Down = w.down
allocations w Up = w.up

-- the frame's tag is the latest holder of its reference on its line
abbrev pub IsTimely : World → Frame → Type 0
IsTimely w u =
    (g : Allocation) × (IsLatest g (allocations w u.line) × (g.handset ≡ u.handset) × (g.reference ≡ u.reference) × (g.holder ≡ u.tag))

-- the frame that a step reads is timely, where the claims rest on it
abbrev pub ReadsTimely : World → Step → Type 0
ReadsTimely w (Take u) = IsTimely w u
ReadsTimely w (Settle u g id n) = IsTimely w u
ReadsTimely w (Acknowledged u g e) = IsTimely w u
ReadsTimely w _ = Unit {0}

abbrev pub Timely : World → List Item → Type 0
Timely w [] = Unit {0}
Timely w (i ∷ is) = ReadsTimely w i.step × Timely (after_item w i) is

-- ---- fresh submissions

-- each number 1 to total has an accepted part among these
abbrev pub AllArrived : ℕ → List Accepted → List Accepted → Type 0
AllArrived total ps accepted = (n : ℕ) → 0 < n → n ≤ total → (q : Accepted) × (Among q ps × (number_in q ≡ n) × Among q accepted)

-- a part may begin a round only when the handset has accepted the whole of the round before
abbrev pub MayBegin : List Allocation → List Accepted → Accepted → Type 0
MayBegin down accepted p =
    (k : Key) → is_for p.handset k p ≡ true →
    is_among (number_in p) (numbers (rounds_of p.handset k down).present) ≡ true →
    AllArrived k.total (rounds_of p.handset k down).present (of_key p.handset k accepted)

-- each part that begins a round may begin it
abbrev pub FreshParts : Submission → ℕ → ℕ → List Ticket → List Allocation → List Accepted → Type 0
FreshParts s moment n [] down accepted = Unit {0}
FreshParts s moment n (t ∷ ts) down accepted =
    MayBegin down accepted (pair_given (part_allocation s moment n t)) × FreshParts s moment (suc n) ts (part_allocation s moment n t ∷ down) accepted

abbrev pub SubmitsFresh : World → ℕ → Step → Type 0
SubmitsFresh w moment (Submit s tickets) = FreshParts s moment 1 tickets w.down w.accepted
SubmitsFresh w moment (Receive u s tickets) = FreshParts s moment 1 tickets w.down w.accepted
SubmitsFresh w moment _ = Unit {0}

abbrev pub Fresh : World → List Item → Type 0
Fresh w [] = Unit {0}
Fresh w (i ∷ is) = SubmitsFresh w i.moment i.step × Fresh (after_item w i) is

-- ---- scripts under the premises

-- the frame that is handed over is timely
abbrev pub HandsTimely : World → Event → Type 0
HandsTimely w (Handed n) = (u : Frame) → Among (Carried u) w.bag → u.number ≡ n → IsTimely w u
HandsTimely w _ = Unit {0}

-- the events may lead from one world to the other, and every frame that they hand over is timely, in stopped events too
abbrev pub PlaysTimely : World → List Happening → World → Type 0
PlaysTimely w [] v = w ≡ v
PlaysTimely w (h ∷ hs) v =
    (steps : List Step)
    × (Belongs w h h.went steps × Run w (happened h steps) × HandsTimely w h.event × PlaysTimely (end w (happened h steps)) hs v)

-- and every submission is fresh, too
abbrev pub PlaysFresh : World → List Happening → World → Type 0
PlaysFresh w [] v = w ≡ v
PlaysFresh w (h ∷ hs) v =
    (steps : List Step)
    × (Belongs w h h.went steps × Run w (happened h steps) × HandsTimely w h.event × Fresh w (happened h steps)
    × PlaysFresh (end w (happened h steps)) hs v)
