-- What the keeper ran is what the connections at its seats asked.
use Rattle.std.proofs.Common.{◌≡◌, ◌<◌, ◌≤◌, ℕ, List, [], Option, None, ap, refl, subst, sym, ◌∙◌}
use Rattle.sms_centre_spec.specs.declared.jobs.job.Job.{Job}
use Rattle.sms_centre_spec.specs.declared.jobs.reply.Reply.{Reply}
use Rattle.sms_seats.specs.Jobs.{of}
use Rattle.sms_keeper.specs.declared.keeper.Keeper.{Keeper}
use Rattle.sms_keeper.specs.declared.machine.Fate.{Fate}
use Rattle.sms_keeper.specs.declared.machine.Item.{Item}
use Rattle.sms_keeper.specs.declared.machine.Stimulus.{Stimulus}
use Rattle.sms_keeper.specs.declared.outs.Out.{Out}
use Rattle.sms_keeper.specs.History.{IsRising, answers_in, for_seat, jobs_of, work}
use Rattle.sms_keeper.specs.Keeping.{IsClosed, given_by, last_tick, ran_by, seats_of}
use Rattle.sms_keeper.specs.Seating.{IsAll, IsNewKeeper, IsUnchanged}
use Rattle.sms_keeper.proofs.Wholes.{all_did, none_ran}
use Rattle.sms_hub.specs.Lasting.{Ran}
use Rattle.sms_hub.proofs.Sessions.{seats_kept}
use Rattle.std.specs.declared.net.socket_addr.SocketAddr.{SocketAddr}
use Rattle.smsc_arrivals.specs.Sharing.{of as share_of}
use Rattle.smsc_arrivals.specs.declared.arrival.Arrival.{Arrival}
use Rattle.smsc_arrivals.specs.declared.doors.Doors.{Doors}
use Rattle.smsc_server.specs.serving.Connections.{Admitted}
use Rattle.smsc_server.specs.serving.Entering.{Came}
use Rattle.smsc_server.specs.serving.Serving.{IsOneHistory, WereRun}
use Rattle.smsc_server.specs.serving.Sittings.{SeatDid}
use Rattle.smsc_server.proofs.serving.Sat.{did_same}

module _ {T : Type 0} (reads : ℕ → Type 0) (gives : T → Stimulus Job → Fate → List (Out Reply)) (after : T → Stimulus Job → Fate → T) (honest : Type 0)
    (before behind : T → Type 0) (told tells : List (Item Job Reply) → Type 0) (a b c : Keeper Job Reply) (new : IsNewKeeper 32 a) (ran : Ran reads gives after honest before behind told tells a b) (closed : IsClosed b)
    (known : IsUnchanged b c) where
  everything : IsAll b ran.items
  everything = all_did reads a b ran.items 32 new ran.did closed

  count : seats_of b ≡ 32
  count = seats_kept a b ran.did.hub ∙ new.seats

  pub keeper_count : seats_of c ≡ 32
  keeper_count = seats_kept b c known.hub ∙ count

  pub one_history : {L S : Type 0} (remaining contents : S → Option (List ℕ)) (admitted : Admitted) (came : L → Option (List (S × SocketAddr))) (doors doors_then : Doors L)
      (arrivals : List (ℕ × Arrival S)) → Came came doors doors_then arrivals
      → ((n : ℕ) → n < 32 → SeatDid remaining contents admitted (for_seat n (work (ran_by c))) (given_by c n) (share_of n arrivals))
      → ((n : ℕ) → seats_of b ≤ n → of n (ran_by b) ≡ []) → IsOneHistory remaining contents admitted reads came doors doors_then gives after honest before behind
  one_history remaining contents admitted came doors doors_then arrivals entered did none = (
    arrivals,
    ran.items,
    entered,
    record {
      seats = λ n less. did_same remaining contents admitted _ _ _ _ _ _
          (ap (for_seat n) (sym (ap work known.ran ∙ everything.ran)))
          (sym (known.given n ∙ everything.given n (subst (λ (m : ℕ). n < m) (sym count) less)))
          refl
          (did n less);
      others = λ n most. none_ran b ran.items n everything (none n (subst (λ (m : ℕ). m ≤ n) (sym count) most));
      last_tick = last_tick b;
      ticks = subst (λ (l : Option ℕ). IsRising reads l ran.items (last_tick b)) new.last ran.did.ticks;
    },
    ran.led,
  )
