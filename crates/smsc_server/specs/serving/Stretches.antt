-- The stretches of a history that belong to the connections of one seat.
use Rattle.std.specs.Prelude.{◌≡◌, ℕ, true, List, [], ◌∷◌, ◌++◌, Option, ⊤}
use Rattle.sms_centre_spec.specs.declared.jobs.job.Job.{Job}
use Rattle.sms_centre_spec.specs.declared.jobs.reply.Reply.{Reply}
use Rattle.sms_seats.specs.Jobs.{jobs_among}
use Rattle.sms_keeper.specs.declared.machine.Item.{Item}
use Rattle.sms_keeper.specs.History.{IsHistory, answers_in, jobs_of}
use Rattle.smsc_loop.specs.Calls.{Call, jobs_put, replies_taken}
use Rattle.smsc_service.specs.Seats.{is_vacant}
use Rattle.smsc_service.specs.Serving.{Serving, after, gives}
use Rattle.smsc_server.specs.serving.Connections.{Admitted, Connection, calls_of}

-- The items have all jobs that these calls put at the seat, in order, and no others of it. The replies for the seat in these items are those
-- that the calls took, in order, and no others.
pub record IsStretch (seat : ℕ) (calls : List Call) (items : List (Item Job Reply)) : Type 0 where
  pub jobs : jobs_of seat items ≡ jobs_among (jobs_put calls)
  pub replies : answers_in seat items ≡ replies_taken calls

-- The same of the last connection. It may have left replies.
pub record IsLastStretch (seat : ℕ) (calls : List Call) (items : List (Item Job Reply)) : Type 0 where
  pub jobs : jobs_of seat items ≡ jobs_among (jobs_put calls)
  pub left : List Reply
  pub replies : answers_in seat items ≡ replies_taken calls ++ left

module _ {S : Type 0} (remaining contents : S → Option (List ℕ)) (admitted : Admitted) where
  -- The history falls into stretches, one for each connection of the seat.
  abbrev pub HaveStretches : ℕ → List (Connection remaining contents admitted) → List (Item Job Reply) → Type 0
  HaveStretches seat [] items = ⊤
  HaveStretches seat (c ∷ []) items = IsLastStretch seat (calls_of remaining contents admitted c) items
  HaveStretches seat (c ∷ next ∷ cs) items =
      (own : List (Item Job Reply)) × (later : List (Item Job Reply)) × (items ≡ own ++ later)
      × IsStretch seat (calls_of remaining contents admitted c) own × HaveStretches seat (next ∷ cs) later

  -- The same from that moment of the centre on. Where nobody was at the seat at first, nobody is behind each connection but the last.
  abbrev pub HaveVacated : ℕ → Serving → List (Connection remaining contents admitted) → List (Item Job Reply) → Type 0
  HaveVacated seat s [] items = ⊤
  HaveVacated seat s (c ∷ []) items = IsLastStretch seat (calls_of remaining contents admitted c) items
  HaveVacated seat s (c ∷ next ∷ cs) items =
      (own : List (Item Job Reply)) × (later : List (Item Job Reply)) × (between : Serving) × (items ≡ own ++ later)
      × IsStretch seat (calls_of remaining contents admitted c) own × IsHistory gives after s own between
      × (is_vacant seat s.seats ≡ true → is_vacant seat between.seats ≡ true) × HaveVacated seat between (next ∷ cs) later
