-- What a run of the server ran.
use Rattle.std.proofs.Common.{◌≡◌, ◌<◌, ◌≤◌, ℕ, List, Option, None, Result, Ok, Err, IfOk, ap, refl, subst, sym, ◌∙◌}
use Rattle.sms_rows.specs.keep.KeepState.{KeepState}
use Rattle.sms_rows.specs.keep.StoreOutcome.{IfHeld, WasHonest}
use Rattle.sms_centre_rows.specs.declared.messages.message.MessageRow.{MessageRow}
use Rattle.sms_centre_spec.specs.declared.jobs.job.Job.{Job}
use Rattle.sms_centre_spec.specs.declared.jobs.reply.Reply.{Reply}
use Rattle.sms_centre_spec.specs.declared.rows.Rows.{Rows}
use Rattle.sms_keeper.specs.declared.machine.Item.{Item}
use Rattle.sms_keeper.specs.History.{IsHistory, answers_in, jobs_of}
use Rattle.smsc_service.specs.declared.service.Service.{Service}
use Rattle.smsc_service.specs.Course.{after as course_after, begun, gives as course_gives}
use Rattle.sms_intake.specs.declared.submission.CentreAccount.{CentreAccount}
use Rattle.smsc_service.specs.Accounts.{bare}
use Rattle.smsc_service.specs.InService.{HasHonestStore, IsRunAs, IsServedBy, archive_in, store_in}
use Rattle.smsc_service.specs.Seats.{nobody}
use Rattle.smsc_service.specs.Serving.{Serving, after, gives, restarted}
use Rattle.smsc_service.specs.Sparing.{kept_by}
use Rattle.std.specs.declared.net.socket_addr.SocketAddr.{SocketAddr}
use Rattle.smsc_arrivals.specs.Sharing.{of}
use Rattle.smsc_arrivals.specs.declared.arrival.Arrival.{Arrival}
use Rattle.smsc_arrivals.specs.declared.doors.Doors.{Doors}
use Rattle.smsc_server.specs.RunReads.{HaveRead}
use Rattle.smsc_server.specs.serving.Connections.{Admitted}
use Rattle.smsc_server.specs.serving.Serving.{HaveTheirOwn, IsOneHistory, IsServed, WereRun}
use Rattle.smsc_server.specs.serving.Sittings.{SeatDid}
use Rattle.smsc_server.proofs.serving.Stretched.{vacated}
use Rattle.smsc_server.proofs.Gone.{gone_so, is_history}

-- what the connections of a seat read, in any history of the centre
abbrev pub ReadLaw : {S : Type 0} → (remaining contents : S → Option (List ℕ)) → Type 0
ReadLaw {S} remaining contents =
    (admitted : Admitted) (seat : ℕ) (before behind : Serving) (items : List (Item Job Reply)) (took : List (Arrival S)) → IsHistory gives after before items behind
    → (did : SeatDid remaining contents admitted (jobs_of seat items) (answers_in seat items) took)
    → HaveRead remaining contents admitted seat before did.connections items

module _ {L S : Type 0} (remaining contents : S → Option (List ℕ)) (admitted : Admitted) (law : ReadLaw remaining contents) (reads : ℕ → Type 0)
    (came : L → Option (List (S × SocketAddr))) (doors : Doors L) where
  have_own : (first end : Serving) (arrivals : List (ℕ × Arrival S)) (items : List (Item Job Reply)) (run : WereRun remaining contents admitted reads arrivals items)
      → IsHistory gives after first items end → HaveTheirOwn remaining contents admitted reads first arrivals items run
  have_own first end arrivals items run h n few =
      let did = run.seats n few in (
        vacated remaining contents admitted n did.connections first items end did.untaken h did.in_turn did.jobs did.replies,
        law admitted n first end items (of n arrivals) h did,
      )

  -- One history of a service that was lent is one history from the rows of its keep on.
  pub served : {K A : Type 0} (state : K → KeepState Rows) (keeps : A → MessageRow → ℕ → Type 0) (keep : K) (accounts : List CentreAccount) (lent left : Service K A) (doors_then : Doors L)
      → ((rows : Rows) → rows.setup.accounts ≡ accounts → IfHeld (bare rows) (state keep) (state (store_in lent)) (IsServedBy state lent (restarted rows nobody)))
      → WasHonest (state keep) (state (store_in lent))
      → IsOneHistory remaining contents admitted reads came doors doors_then course_gives course_after (HasHonestStore state left) (IsRunAs state keeps lent) (IsRunAs state keeps left)
      → WasHonest (state (store_in lent)) (state (store_in left))
      → IsServed remaining contents admitted reads came doors doors_then state keeps keep accounts (store_in left) (archive_in left)
  served state keeps keep accounts lent left doors_then begins so history before = (
    (λ is. so (before is)),
    history.0,
    history.1,
    history.2,
    history.3,
    λ rows are is held.
        let first = begun (kept_by lent) (restarted rows nobody) in
        let led = history.4 is first (record { standing = begins rows are (before is) held; archived = λ m none. absurd none; left = λ m none. absurd none; kept = (refl, refl) }) in
        let run = is_history history.1 first led.0 led.1.0 in (
          led.0.serving,
          (
            run,
            led.1.1.standing.made.rows.0,
            have_own (restarted rows nobody) led.0.serving history.0 history.1 history.3 run,
            gone_so (keeps (archive_in left)) history.1 first led.0 led.1.0 led.1.1.archived,
          ),
        ),
  )

  -- So of a run that ended in order: the work is done on the service that is lent, and leaves the service in which the rows end.
  pub served_if : {K A F : Type 0} (state : K → KeepState Rows) (keeps : A → MessageRow → ℕ → Type 0) (keep : K) (accounts : List CentreAccount) (lent shown left : Service K A) (ended : Result (Doors L) F)
      → ((rows : Rows) → rows.setup.accounts ≡ accounts → IfHeld (bare rows) (state keep) (state (store_in lent)) (IsServedBy state lent (restarted rows nobody)))
      → WasHonest (state keep) (state (store_in lent))
      → shown ≡ lent
      → IfOk ended (λ doors_then. IsOneHistory remaining contents admitted reads came doors doors_then course_gives course_after (HasHonestStore state left) (IsRunAs state keeps shown) (IsRunAs state keeps left))
      → WasHonest (state (store_in shown)) (state (store_in left))
      → IfOk ended (λ doors_then. IsServed remaining contents admitted reads came doors doors_then state keeps keep accounts (store_in left) (archive_in left))
  served_if {K} {A} state keeps keep accounts lent shown left (Ok doors_then) begins so shows history before =
      let begun : HasHonestStore state shown → HasHonestStore state lent = subst (λ (s : Service K A). HasHonestStore state s) shows in
      served state keeps keep accounts shown left doors_then
      (λ rows are is held. subst (λ (s : Service K A). IsServedBy state s (restarted rows nobody)) (sym shows) (begins rows are (begun is) held))
      (λ is. so (begun is)) history before
  served_if state keeps keep accounts lent shown left (Err fault) begins so shows history before = tt

  -- So with the keep and the archive that are given back.
  pub served_by : {K A F : Type 0} (state : K → KeepState Rows) (keeps : A → MessageRow → ℕ → Type 0) (keep kept : K) (accounts : List CentreAccount) (archive : A) (lent shown left : Service K A)
      (ended : Result (Doors L) F) (given : Result (Doors L × K × A) F)
      → ((rows : Rows) → rows.setup.accounts ≡ accounts → IfHeld (bare rows) (state keep) (state (store_in lent)) (IsServedBy state lent (restarted rows nobody)))
      → WasHonest (state keep) (state (store_in lent))
      → shown ≡ lent
      → IfOk ended (λ doors_then. IsOneHistory remaining contents admitted reads came doors doors_then course_gives course_after (HasHonestStore state left) (IsRunAs state keeps shown) (IsRunAs state keeps left))
      → WasHonest (state (store_in shown)) (state (store_in left))
      → kept ≡ store_in left
      → archive ≡ archive_in left
      → IfOk given (λ r. (ended ≡ Ok r.0) × (r.1 ≡ kept) × (r.2 ≡ archive))
      → IfOk given (λ r. IsServed remaining contents admitted reads came doors r.0 state keeps keep accounts r.1 r.2)
  served_by {K} {A} {F} state keeps keep kept accounts archive lent shown left ended (Ok r) begins so shows history before held had gives =
      subst (λ (a : A). IsServed remaining contents admitted reads came doors r.0 state keeps keep accounts r.1 a) (sym (gives.2 ∙ had))
      (subst (λ (k : K). IsServed remaining contents admitted reads came doors r.0 state keeps keep accounts k (archive_in left)) (sym (gives.1 ∙ held))
      (subst (λ (e : Result (Doors L) F). IfOk e (λ doors_then. IsServed remaining contents admitted reads came doors doors_then state keeps keep accounts (store_in left) (archive_in left))) gives.0
      (served_if state keeps keep accounts lent shown left ended begins so shows history before)))
  served_by state keeps keep kept accounts archive lent shown left ended (Err fault) begins so shows history before held had gives = tt
