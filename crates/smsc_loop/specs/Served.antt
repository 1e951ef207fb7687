-- A connection that was served from its first octet until its seat was as before.
use Rattle.std.specs.Prelude.{◌≡◌, ◌⊎◌, ℕ, Bool, true, false, List, [], Option, ⊤}
use Rattle.std.specs.Io.KnownBytes.{IsAtEnd}
use Rattle.sms_centre_spec.specs.declared.jobs.job.Job.{Job}
use Rattle.sms_centre_spec.specs.declared.jobs.reply.Reply.{Reply}
use Rattle.sms_seats.specs.declared.seat.Seat.{Seat}
use Rattle.sms_seats.specs.Seats.{put_by, taken_by}
use Rattle.smsc_loop.specs.declared.note.LeaveReason.{LeaveReason}
use Rattle.smsc_loop.specs.declared.note.LeaveReason.TheVariants.{Closed, Over, Silent, NoMemory}
use Rattle.smsc_loop.specs.declared.turn_end.TurnEnd.{TurnEnd}
use Rattle.smsc_loop.specs.declared.turn_end.TurnEnd.TheVariants.{Stays, Rests, Leaves}
use Rattle.smsc_loop.specs.Calls.{Call}
use Rattle.smsc_loop.specs.Courses.{Did, Standing, standing}
use Rattle.smsc_loop.specs.Owing.{IsCleared}
use Rattle.smsc_loop.specs.Phases.{Phase, Serves, Fails, Asks, IsHere}

-- The endpoint has left its seat: its jobs are put, and behind them a request of the loop. All answers are taken.
abbrev pub IsLeft : {V : Type 0} → (V → Bool) → Type 0 → V → Phase → Seat Job Reply → Type 0
IsLeft any_job run_over v p seat = run_over ⊎ ((p ≡ Asks) × (any_job v ≡ false) × IsCleared (put_by seat) (taken_by seat))

-- no octet waits to be sent, and each request that was taken is answered
abbrev pub IsAnswered : {V : Type 0} → (V → List ℕ) → (V → Bool) → V → Type 0
IsAnswered waits owing v = (waits v ≡ []) × (owing v ≡ false)

-- Whether a wire says that the other side sends no more, and what the wire has still to give, where it states that.
pub record SideEnd : Type 0 where
  pub ended : Bool
  pub remaining : Option (List ℕ)

abbrev pub side_end : Bool → Option (List ℕ) → SideEnd
side_end ended remaining = record { ended = ended; remaining = remaining }

-- The other side sends no more, and each octet of it was taken.
abbrev pub HasGivenAll : SideEnd → Type 0
HasGivenAll side = (side.ended ≡ true) × IsAtEnd side.remaining

module _ {V : Type 0} (waits : V → List ℕ) (over owing : V → Bool) where
  -- What a reason to leave says. Where the other side alone has ended, each octet of it was taken, and it has first been sent all answers that it
  -- is owed.
  abbrev pub Meant : Type 0 → SideEnd → Bool → V → Phase → LeaveReason → Type 0
  Meant run_over side closed v p Closed = (p ≡ Serves) × (run_over ⊎ ((closed ≡ true) ⊎ (HasGivenAll side × IsAnswered waits owing v)))
  Meant run_over side closed v p Over = (p ≡ Serves) × (over v ≡ true) × IsAnswered waits owing v
  Meant run_over side closed v p NoMemory = p ≡ Fails
  Meant run_over side closed v p why = p ≡ Serves

  -- The same, once an endpoint that did not say who it is was told that it is given up. That may be refused memory.
  abbrev pub MeantLast : Type 0 → SideEnd → Bool → V → Phase → LeaveReason → Type 0
  MeantLast run_over side closed v p Silent = IsHere p
  MeantLast run_over side closed v p why = Meant run_over side closed v p why

  -- the end of a turn, which was refused nothing
  abbrev pub MeantAt : SideEnd → Bool → V → TurnEnd → Type 0
  MeantAt side closed v Stays = ⊤
  MeantAt side closed v Rests = ⊤
  MeantAt side closed v (Leaves why) = Meant ⊥ side closed v Serves why

  module _ (does : Call → V → V → Type 0) (any_job : V → Bool) (run_over : Type 0) where
    -- From the one moment the endpoint was served until the connection ended, for some reason. From then it left its seat.
    pub record Served (ended closed : Bool) (before : Standing V) (after : V) (remaining written : Option (List ℕ)) (seat : Seat Job Reply) : Type 0 where
      pub why : LeaveReason
      pub last : V
      pub last_phase : Phase
      pub last_seat : Seat Job Reply
      pub served : Did does before (standing last last_phase remaining written last_seat)
      pub meant : MeantLast run_over (side_end ended remaining) closed last last_phase why
      pub phase : Phase
      pub left : Did does (standing last last_phase remaining written last_seat) (standing after phase remaining written seat)
      pub emptied : IsLeft any_job run_over after phase seat
