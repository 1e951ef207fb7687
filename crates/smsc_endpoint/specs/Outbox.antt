-- What waits to be sent and to be put.
use Rattle.std.specs.Prelude.{ℕ, suc, List, [], ◌∷◌, ◌++◌, length, drop, Option, Some, None, Bool, false, true, nat_le, if◌then◌else◌}
use Rattle.sms_centre_spec.specs.declared.jobs.job.Job.{Job}
use Rattle.sms_centre_spec.specs.jobs.Requests.{is_request}

-- Octets to send and jobs to put, each in their order. A closed one takes no octets any more.
pub record OutboxView : Type 0 where
  pub octets : List ℕ
  pub jobs : List Job
  pub is_closed : Bool

abbrev pub nothing_waits : OutboxView
nothing_waits = record { octets = []; jobs = []; is_closed = false }

-- ---- octets

abbrev pub with_octets : List ℕ → OutboxView → OutboxView
with_octets octets w = if w.is_closed then w else record w { octets = w.octets ++ octets }

-- the first so many were sent
abbrev pub without_octets : ℕ → OutboxView → OutboxView
without_octets count w = if nat_le count (length w.octets) then record w { octets = drop count w.octets } else w

abbrev pub closed : OutboxView → OutboxView
closed w = record w { octets = []; is_closed = true }

-- ---- jobs

abbrev pub with_job : Job → OutboxView → OutboxView
with_job job w = record w { jobs = w.jobs ++ job ∷ [] }

-- it is the next to be put
abbrev pub with_next : Job → OutboxView → OutboxView
with_next job w = record w { jobs = job ∷ w.jobs }

-- the next job, and what is left behind it
abbrev pub next_among : List Job → OutboxView → Option Job × OutboxView
next_among [] w = (None, w)
next_among (job ∷ jobs) w = (Some job, record w { jobs = jobs })

abbrev pub next_of : OutboxView → Option Job × OutboxView
next_of w = next_among w.jobs w

-- ---- jobs that have an answer

-- how many of them there are
abbrev pub requests_among : List Job → ℕ
requests_among [] = 0
requests_among (job ∷ jobs) = if is_request job then suc (requests_among jobs) else requests_among jobs

-- whether the first has an answer
abbrev pub is_request_first : List Job → Bool
is_request_first [] = false
is_request_first (job ∷ jobs) = is_request job

abbrev pub is_any : List Job → Bool
is_any [] = false
is_any (job ∷ jobs) = true
