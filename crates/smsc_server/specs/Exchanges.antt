-- The requests of a seat and their answers, in a part of a history.
use Rattle.std.specs.Prelude.{◌≡◌, ◌==◌, ℕ, List, [], ◌∷◌, ◌++◌, map, Option, ⊤, if◌then◌else◌}
use Rattle.sms_centre_spec.specs.declared.answer.CentreAnswer.{CentreAnswer}
use Rattle.sms_centre_spec.specs.declared.jobs.job.Job.{Job}
use Rattle.sms_centre_spec.specs.declared.jobs.reply.Reply.{Reply}
use Rattle.sms_centre_spec.specs.jobs.Requests.{is_request}
use Rattle.sms_seats.specs.Jobs.{jobs_among}
use Rattle.sms_keeper.specs.declared.machine.Item.{Item}
use Rattle.sms_keeper.specs.declared.machine.Stimulus.{Stimulus}
use Rattle.sms_keeper.specs.declared.machine.Stimulus.TheVariants.{Job as JobOf, Tick, Own}
use Rattle.sms_keeper.specs.History.{IsHistory, outs_to}
use Rattle.smsc_loop.specs.Calls.{Call, jobs_put, replies_taken}
use Rattle.smsc_endpoint.specs.EsmeTurns.{answer_in}
use Rattle.smsc_service.specs.Serving.{Serving, after, gives}
use Rattle.smsc_server.specs.serving.Connections.{Admitted, Connection, calls_of}

-- a request that a seat put, and an answer of the centre
pub record Exchange : Type 0 where
  pub job : Job
  pub answer : CentreAnswer

abbrev pub exchange : Job → CentreAnswer → Exchange
exchange job answer = record { job = job; answer = answer }

abbrev pub asked_in : Exchange → Job
asked_in x = x.job

abbrev pub answered_in : Exchange → CentreAnswer
answered_in x = x.answer

-- the jobs that have an answer
abbrev pub requests_among : List Job → List Job
requests_among [] = []
requests_among (job ∷ jobs) = if is_request job then job ∷ requests_among jobs else requests_among jobs

-- the answers among replies
abbrev pub answers_among : List Reply → List CentreAnswer
answers_among [] = []
answers_among (reply ∷ replies) = answer_in reply ++ answers_among replies

-- ---- in a history

module _ (n : ℕ) where
  -- a request of the seat, with each answer that it has
  abbrev pub exchanges_at : Stimulus Job → List CentreAnswer → List Exchange
  exchanges_at (JobOf seat job) answers = if n == seat then (if is_request job then map (exchange job) answers else []) else []
  exchanges_at (Tick now) answers = []
  exchanges_at (Own errand) answers = []

  -- The requests of the seat in these items, each with the answers that the centre's definition gives to its seat at that place.
  abbrev pub exchanges : Serving → List (Item Job Reply) → List Exchange
  exchanges s [] = []
  exchanges s (e ∷ items) =
      exchanges_at e.stimulus (answers_among (outs_to n (gives s e.stimulus e.fate))) ++ exchanges (after s e.stimulus e.fate) items

  -- These calls put the requests, each of which has one answer. The answers that they took are those, in order, and no others.
  pub record AreExchanged (s : Serving) (calls : List Call) (items : List (Item Job Reply)) : Type 0 where
    pub requests : map asked_in (exchanges s items) ≡ requests_among (jobs_among (jobs_put calls))
    pub answers : map answered_in (exchanges s items) ≡ answers_among (replies_taken calls)

  -- The same of the last connection. It may have left answers.
  pub record AreLastExchanged (s : Serving) (calls : List Call) (items : List (Item Job Reply)) : Type 0 where
    pub requests : map asked_in (exchanges s items) ≡ requests_among (jobs_among (jobs_put calls))
    pub left : List CentreAnswer
    pub answers : map answered_in (exchanges s items) ≡ answers_among (replies_taken calls) ++ left

module _ {S : Type 0} (remaining contents : S → Option (List ℕ)) (admitted : Admitted) where
  -- The history falls into stretches, one for each connection of the seat, and in each the connection has the answers to its own requests.
  abbrev pub HaveExchanges : ℕ → Serving → List (Connection remaining contents admitted) → List (Item Job Reply) → Type 0
  HaveExchanges seat s [] items = ⊤
  HaveExchanges seat s (c ∷ []) items = AreLastExchanged seat s (calls_of remaining contents admitted c) items
  HaveExchanges seat s (c ∷ next ∷ cs) items =
      (own : List (Item Job Reply)) × (later : List (Item Job Reply)) × (between : Serving) × (items ≡ own ++ later)
      × IsHistory gives after s own between × AreExchanged seat s (calls_of remaining contents admitted c) own
      × HaveExchanges seat between (next ∷ cs) later
