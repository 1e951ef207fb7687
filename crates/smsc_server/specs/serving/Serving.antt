-- What a run of the server ran.
use Rattle.std.specs.Prelude.{◌≡◌, ◌<◌, ◌≤◌, ℕ, List, [], Option, None}
use Rattle.std.specs.declared.net.socket_addr.SocketAddr.{SocketAddr}
use Rattle.sms_rows.specs.keep.KeepState.{KeepState}
use Rattle.sms_rows.specs.keep.StoreOutcome.{IfHeld, WasHonest}
use Rattle.sms_centre_rows.specs.declared.messages.message.MessageRow.{MessageRow}
use Rattle.sms_centre_spec.specs.declared.jobs.job.Job.{Job}
use Rattle.sms_centre_spec.specs.declared.jobs.reply.Reply.{Reply}
use Rattle.sms_centre_spec.specs.declared.rows.Rows.{Rows}
use Rattle.sms_hub.specs.declared.hub_fault.HubFault.{HubFault}
use Rattle.sms_hub.specs.declared.hub_fault.HubFault.TheVariants.{NoMemory as NoGrowth, NoThread as NoFurtherThread, MachineFailed, TooManySessions}
use Rattle.sms_keeper.specs.declared.machine.Fate.{Fate}
use Rattle.sms_keeper.specs.declared.machine.Item.{Item}
use Rattle.sms_keeper.specs.declared.machine.Stimulus.{Stimulus}
use Rattle.sms_keeper.specs.declared.outs.Out.{Out}
use Rattle.sms_keeper.specs.History.{IsHistory, IsRising, Leads, answers_in, jobs_of}
use Rattle.smsc_service.specs.Seats.{nobody}
use Rattle.smsc_service.specs.Serving.{Serving, after, gives, restarted}
use Rattle.smsc_arrivals.specs.Sharing.{of}
use Rattle.smsc_arrivals.specs.declared.arrival.Arrival.{Arrival}
use Rattle.smsc_arrivals.specs.declared.doors.Doors.{Doors}
use Rattle.sms_intake.specs.declared.submission.CentreAccount.{CentreAccount}
use Rattle.smsc_service.specs.Accounts.{bare}
use Rattle.smsc_server.specs.RunReads.{HaveRead}
use Rattle.smsc_server.specs.Forgotten.{IsSoOfGone}
use Rattle.smsc_server.specs.serving.Connections.{Admitted}
use Rattle.smsc_server.specs.serving.Entering.{Came}
use Rattle.smsc_server.specs.serving.Sittings.{SeatDid}
use Rattle.smsc_server.specs.serving.Stretches.{HaveVacated}
use Rattle.smsc_server.specs.declared.serving.fault.ServeFault.{ServeFault}
use Rattle.smsc_server.specs.declared.serving.fault.ServeFault.TheVariants.{NoMemory, NoThread, Broken}

module _ {S : Type 0} (remaining contents : S → Option (List ℕ)) (admitted : Admitted) (reads : ℕ → Type 0) where
  -- These items are what was run. Each job of them was put by a connection at the seat that they name, and each reply of them was given to
  -- its seat. The connections of a seat are those of its number, in order. The ticks are later and later, at moments that the clock shows.
  pub record WereRun (arrivals : List (ℕ × Arrival S)) (items : List (Item Job Reply)) : Type 0 where
    pub seats : (n : ℕ) → n < 32 → SeatDid remaining contents admitted (jobs_of n items) (answers_in n items) (of n arrivals)
    pub others : (n : ℕ) → 32 ≤ n → jobs_of n items ≡ []
    pub last_tick : Option ℕ
    pub ticks : IsRising reads None items last_tick

  -- What the connections of each seat had of a history that begins there. It falls into a stretch for each. The replies for the seat in a stretch
  -- are those that its connection heard or dropped, and nobody is at the seat behind it. Each request of a stretch has one answer, and its
  -- connection read those.
  abbrev pub HaveTheirOwn : Serving → (arrivals : List (ℕ × Arrival S)) → (items : List (Item Job Reply)) → WereRun arrivals items → Type 0
  HaveTheirOwn first arrivals items run =
      (n : ℕ) → (few : n < 32) → HaveVacated remaining contents admitted n first (run.seats n few).connections items
      × HaveRead remaining contents admitted n first (run.seats n few).connections items

  module _ {L : Type 0} (came : L → Option (List (S × SocketAddr))) (doors doors_then : Doors L) where
    -- What connections asked was run. As long as the machine is honest it leads from what was before to what is after.
    abbrev pub IsOneHistory : {T : Type 0} → (T → Stimulus Job → Fate → List (Out Reply)) → (T → Stimulus Job → Fate → T)
        → Type 0 → (T → Type 0) → (T → Type 0) → Type 0
    IsOneHistory gives after honest before behind =
        (arrivals : List (ℕ × Arrival S)) × (items : List (Item Job Reply)) × Came came doors doors_then arrivals × WereRun arrivals items
        × (honest → Leads gives after before items behind)

    -- What connections asked was run. As long as the store is honest it is one history of the centre's definition on its rows with the accounts of
    -- the run, from nobody at any seat on, and the keep that is given back holds the rows of its end. A keep has no accounts. Each connection had its
    -- own of that history. The archive that is given back keeps each message that went, with the number of its parts.
    abbrev pub IsServed : {K A : Type 0} → (K → KeepState Rows) → (A → MessageRow → ℕ → Type 0) → K → List CentreAccount → K → A → Type 0
    IsServed state keeps keep accounts kept archive =
        WasHonest (state keep) (state kept) × (arrivals : List (ℕ × Arrival S)) × (items : List (Item Job Reply))
        × Came came doors doors_then arrivals × (run : WereRun arrivals items)
        × ((rows : Rows) → rows.setup.accounts ≡ accounts → IfHeld (bare rows) (state keep) (state kept)
        ((end : Serving) × (IsHistory gives after (restarted rows nobody) items end × (state kept).holds (bare end.core.rows)
        × HaveTheirOwn (restarted rows nobody) arrivals items run × IsSoOfGone (keeps archive) (restarted rows nobody) items)))

-- why there was no answer
abbrev pub fault_of : HubFault → ServeFault
fault_of NoFurtherThread = NoThread
fault_of NoGrowth = NoMemory
fault_of MachineFailed = Broken
fault_of TooManySessions = NoThread
