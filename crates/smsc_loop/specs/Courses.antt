-- What the loop did: the calls, and what passed over the wire and the seat meanwhile.
use Rattle.std.specs.Prelude.{◌≡◌, ℕ, true, false, List, [], ◌∷◌, ◌++◌, Option, ⊤}
use Rattle.std.specs.Io.KnownBytes.{Appends, Consumes}
use Rattle.sms_centre_spec.specs.declared.jobs.job.Job.{Job}
use Rattle.sms_centre_spec.specs.declared.jobs.reply.Reply.{Reply}
use Rattle.sms_seats.specs.declared.seat.Seat.{Seat}
use Rattle.sms_seats.specs.Seats.{IsSameSeat, put_by, taken_by}
use Rattle.smsc_loop.specs.Calls.{Call, Heard, PutLast, PutOwn, Dropped, Refused, octets_taken, octets_sent, replies_taken, jobs_put}
use Rattle.smsc_loop.specs.Owing.{is_ahead}
use Rattle.smsc_loop.specs.Phases.{Phase, Moves}

-- how an endpoint, its connection and its seat are at a moment
pub record Standing (V : Type 0) : Type 0 where
  pub view : V
  pub phase : Phase
  -- the octets that are still to arrive, and those that were written so far, where the wire states them
  pub remaining : Option (List ℕ)
  pub written : Option (List ℕ)
  pub seat : Seat Job Reply

-- By what a seat put and took before the call: the endpoint hears a reply only while no more answers were taken than requests were put.
abbrev pub IsDue : List (Option Job) → List Reply → Call → Type 0
IsDue put taken (Heard reply went) = is_ahead put (taken ++ reply ∷ []) ≡ false
IsDue put taken (Refused reply) = is_ahead put (taken ++ reply ∷ []) ≡ true
IsDue put taken call = ⊤

-- so of each call
abbrev pub AreDue : List (Option Job) → List Reply → List Call → Type 0
AreDue put taken [] = ⊤
AreDue put taken (call ∷ calls) = IsDue put taken call × AreDue (put ++ jobs_put (call ∷ [])) (taken ++ replies_taken (call ∷ [])) calls

module _ {V : Type 0} where
  abbrev pub standing : V → Phase → Option (List ℕ) → Option (List ℕ) → Seat Job Reply → Standing V
  standing view phase remaining written seat = record { view = view; phase = phase; remaining = remaining; written = written; seat = seat }

  module _ (does : Call → V → V → Type 0) where
    -- what a call leads to; what the loop does by itself leaves the endpoint as it is
    abbrev pub LeadsTo : Call → V → V → Type 0
    LeadsTo (PutLast job) v w = w ≡ v
    LeadsTo (PutOwn job) v w = w ≡ v
    LeadsTo (Dropped reply) v w = w ≡ v
    LeadsTo (Refused reply) v w = w ≡ v
    LeadsTo call v w = does call v w

    -- calls one after the other
    abbrev pub Runs : V → Phase → List Call → V → Phase → Type 0
    Runs v p [] w q = (w ≡ v) × (q ≡ p)
    Runs v p (call ∷ calls) w q = (u : V) × (o : Phase) × LeadsTo call v u × Moves call p o × Runs u o calls w q

    -- The calls lead from the one moment to the other. What the wire gave meanwhile is what the endpoint took, and what was written is what
    -- it sent. The seat took what was heard, dropped or refused, and put what was put. No answer was heard before its request was put.
    pub record Did (s t : Standing V) : Type 0 where
      pub calls : List Call
      pub runs : Runs s.view s.phase calls t.view t.phase
      pub remaining_so : Consumes s.remaining t.remaining (octets_taken calls)
      pub written_so : Appends s.written t.written (octets_sent calls)
      pub taken_so : taken_by t.seat ≡ taken_by s.seat ++ replies_taken calls
      pub put_so : put_by t.seat ≡ put_by s.seat ++ jobs_put calls
      pub due_so : AreDue (put_by s.seat) (taken_by s.seat) calls
      pub seat_so : IsSameSeat s.seat t.seat
