-- What the loop does at a seat that its endpoint has left.
use Rattle.std.specs.Prelude.{◌≡◌, ◌⊎◌, List, [], ◌∷◌, ◌++◌, Option, Some, None, ⊤}
use Rattle.sms_centre_spec.specs.declared.jobs.job.Job.{Job}
use Rattle.sms_centre_spec.specs.declared.jobs.reply.Reply.{Reply}
use Rattle.sms_seats.specs.declared.seat.Seat.{Seat}
use Rattle.sms_seats.specs.Seats.{IsSameSeat, put_by, taken_by}
use Rattle.smsc_loop.specs.Owing.{IsCleared}
use Rattle.smsc_loop.specs.Phases.{IsOwn, own_request}

-- replies were taken
abbrev pub Drops : List Reply → List Reply → Type 0
Drops before after = (dropped : List Reply) × (after ≡ before ++ dropped)

-- the last job of an endpoint, if there is one
abbrev pub due_of : Option Job → List (Option Job)
due_of None = []
due_of (Some job) = Some job ∷ []

-- jobs of the loop
abbrev pub AreOwn : List Job → Type 0
AreOwn [] = ⊤
AreOwn (job ∷ jobs) = IsOwn job × AreOwn jobs

abbrev pub all_of : List Job → List (Option Job)
all_of [] = []
all_of (job ∷ jobs) = Some job ∷ all_of jobs

-- Jobs of the loop were put, and replies were taken.
abbrev pub Owns : Seat Job Reply → Seat Job Reply → Type 0
Owns s t = IsSameSeat s t × Drops (taken_by s) (taken_by t) × (own : List Job) × AreOwn own × (put_by t ≡ put_by s ++ all_of own)

module _ (run_over : Type 0) where
  -- The loop has put its own request, and jobs of its own behind it. All answers are taken, and nobody is at the seat.
  abbrev pub OwnPut : Seat Job Reply → Seat Job Reply → Type 0
  OwnPut s t =
      (run_over × (put_by t ≡ put_by s))
      ⊎ ((own : List Job) × AreOwn own × (put_by t ≡ put_by s ++ Some own_request ∷ all_of own) × (run_over ⊎ IsCleared (put_by t) (taken_by t)))

  -- The last job of the endpoint is put, and then the loop's own.
  abbrev pub Emptied : Option Job → Seat Job Reply → Seat Job Reply → Type 0
  Emptied due s t =
      IsSameSeat s t × Drops (taken_by s) (taken_by t)
      × ((run_over × (put_by t ≡ put_by s))
      ⊎ ((run_over × (put_by t ≡ put_by s ++ due_of due))
      ⊎ ((own : List Job) × AreOwn own × (put_by t ≡ (put_by s ++ due_of due) ++ Some own_request ∷ all_of own)
      × (run_over ⊎ IsCleared (put_by t) (taken_by t)))))
