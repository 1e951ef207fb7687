-- What a service may ask of its centre by itself, at a moment that the clock shows.
use Rattle.std.specs.Prelude.{◌≡◌, ◌+◌, ◌/◌, ◌≤◌, nat_le, unwrap_or, ℕ, Bool, true, Option, Some, None, IsSomeAnd, ⊤}
use Rattle.sms_centre_rows.specs.waiting.Trying.{later}
use Rattle.sms_centre_spec.specs.declared.jobs.job.Job.{Job}
use Rattle.sms_keeper.specs.declared.machine.Errand.{Errand}
use Rattle.sms_keeper.specs.declared.machine.Errand.TheVariants.{Forget, Retry, Delete, Enrol}
use Rattle.sms_keeper.specs.declared.machine.Stimulus.{Stimulus}
use Rattle.sms_keeper.specs.declared.machine.Stimulus.TheVariants.{Job as OfSeat, Tick, Own}
use Rattle.smsc_service.specs.declared.errands.Errands.{Errands}
use Rattle.smsc_service.specs.declared.service.Service.{Service}

-- To forget is no order of its owner.
abbrev pub IsOrder : Errand → Type 0
IsOrder (Forget before from most) = ⊥
IsOrder (Retry id) = ⊤
IsOrder (Delete id) = ⊤
IsOrder (Enrol account) = ⊤

-- from that moment on, or at once where there is none
abbrev pub is_due : Option ℕ → ℕ → Bool
is_due None now = true
is_due (Some due) now = nat_le due now

-- Messages are forgotten only where it is said how long they are kept, and once it is due. They ended so many seconds before that moment, and
-- at most 200 are looked at.
abbrev pub Spares : Option ℕ → Option ℕ → ℕ → Errand → Type 0
Spares kept due now (Forget before from most) = (is_due due now ≡ true) × IsSomeAnd kept (λ seconds. (before + seconds ≡ now) × (most ≤ 200))
Spares kept due now (Retry id) = ⊤
Spares kept due now (Delete id) = ⊤
Spares kept due now (Enrol account) = ⊤

-- ---- when it is due

-- the seconds between two calls, of a centre with so many messages: a call passes all of them
abbrev pub rest_of : ℕ → ℕ
rest_of messages = 1 + messages / 2500000

-- the moment at which it was asked to forget what ended before that one
abbrev pub asked_at : Option ℕ → ℕ → ℕ
asked_at kept before = later before (unwrap_or kept 0)

-- it is due no sooner than so many seconds later
abbrev pub Rests : ℕ → ℕ → Option ℕ → Type 0
Rests asked seconds due = IsSomeAnd due (λ moment. later asked seconds ≤ moment)

-- the one claim behind a call that forgets what ended before a moment, the other behind all else
abbrev pub Behind : Stimulus Job → (ℕ → Type 0) → Type 0 → Type 0
Behind (OfSeat seat job) Forgot Same = Same
Behind (Tick now) Forgot Same = Same
Behind (Own (Forget before from most)) Forgot Same = Forgot before
Behind (Own (Retry id)) Forgot Same = Same
Behind (Own (Delete id)) Forgot Same = Same
Behind (Own (Enrol account)) Forgot Same = Same

-- ---- what a service has of this

module _ {A : Type 0} where
  -- for how many seconds they keep what has ended
  abbrev pub keep_of : Errands A → Option ℕ
  keep_of errands = errands.keep

  -- the moment from which on they may forget
  abbrev pub due_of : Errands A → Option ℕ
  due_of errands = errands.due

  -- where each message goes before they forget it
  abbrev pub archive_of : Errands A → A
  archive_of errands = errands.archive

module _ {K A : Type 0} where
  -- what it does that no seat asks
  abbrev pub errands_of : Service K A → Errands A
  errands_of service = service.errands

  -- for how many seconds it keeps what has ended
  abbrev pub kept_by : Service K A → Option ℕ
  kept_by service = keep_of (errands_of service)

  -- the moment from which on it may forget
  abbrev pub due_in : Service K A → Option ℕ
  due_in service = due_of (errands_of service)
