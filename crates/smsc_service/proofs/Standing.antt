-- A service in a group, one step further.
use Rattle.std.proofs.Common.{◌≡◌, ◌⊎◌, List, length, ⊎_elim, inl, inr, ap, refl, subst, sym, ◌∙◌}
use Rattle.sms_rows.specs.keep.KeepState.{KeepState}
use Rattle.sms_centre.specs.state.CentreState.{Represents}
use Rattle.sms_centre_group.proofs.Joining.{settled}
use Rattle.sms_centre_spec.specs.Draft.{Core, no_changes}
use Rattle.sms_centre_spec.specs.declared.rows.Rows.{Rows}
use Rattle.sms_centre_spec.specs.declared.jobs.job.Job.{Job}
use Rattle.sms_centre_spec.specs.declared.jobs.reply.Reply.{Reply}
use Rattle.sms_centre_spec.specs.declared.rows.Changes.{Changes}
use Rattle.sms_keeper.specs.Fates.{MatchFate}
use Rattle.sms_keeper.specs.declared.machine.Fate.{Fate}
use Rattle.sms_keeper.specs.declared.machine.Fate.TheVariants.{Done, NoMemory, Refused}
use Rattle.sms_keeper.specs.declared.machine.Stimulus.{Stimulus}
use Rattle.sms_keeper.specs.declared.outs.Out.{Out}
use Rattle.smsc_service.specs.Asking.{UnlessEvent, asked_by}
use Rattle.smsc_service.specs.declared.asking.SeatRequest.{SeatRequest}
use Rattle.smsc_service.specs.declared.asking.SeatRequest.TheVariants.{Event, Nothing, Taken, Forget, Enrol}
use Rattle.smsc_service.specs.declared.service.Service.{Service}
use Rattle.smsc_service.specs.Accounts.{bare}
use Rattle.smsc_service.specs.InSeated.{accounts_in, held_by}
use Rattle.smsc_service.specs.InService.{HasAccounts, IsAwaitedBy, IsServedBy, store_in}
use Rattle.smsc_service.specs.Seats.{Seats, seats_in}
use Rattle.smsc_service.specs.Serving.{Serving, after, after_for, gives, gives_for, restarted}
use Rattle.smsc_service.proofs.AccountsCome.{accounts_are, none_come}

-- what starts again has the rows from before the group
pub after_rows : (a : SeatRequest) (r : Serving) (stimulus : Stimulus Job) → (after_for a Refused r stimulus).core.rows ≡ r.core.rows
after_rows (Event event) r stimulus = refl
after_rows Nothing r stimulus = refl
after_rows Taken r stimulus = refl
after_rows (Forget before from most) r stimulus = refl
after_rows (Enrol account) r stimulus = refl

-- what starts again still does so after one item more
pub after_again : (a : SeatRequest) (r : Serving) (stimulus : Stimulus Job) → r ≡ restarted r.core.rows r.seats
    → after_for a Refused r stimulus ≡ restarted (after_for a Refused r stimulus).core.rows (after_for a Refused r stimulus).seats
after_again (Event event) r stimulus is = refl
after_again Nothing r stimulus is = is
after_again Taken r stimulus is = is
after_again (Forget before from most) r stimulus is = refl
after_again (Enrol account) r stimulus is = refl

-- what an item gives whose group is refused, by what it asks
pub refused_gives : (a : SeatRequest) (q : Seats) (r : Serving) (stimulus : Stimulus Job) (outs : List (Out Reply)) → a ≡ asked_by q stimulus → q ≡ r.seats → outs ≡ gives_for a Refused r stimulus
    → outs ≡ gives r stimulus Refused
refused_gives a q r stimulus outs is same h = h ∙ ap (λ (x : SeatRequest). gives_for x Refused r stimulus) (is ∙ ap (λ (s : Seats). asked_by s stimulus) same)

-- who sits where after it, by what it asks
pub refused_seats : (a : SeatRequest) (q now : Seats) (r : Serving) (stimulus : Stimulus Job) → a ≡ asked_by q stimulus → q ≡ r.seats → now ≡ (after_for a Refused r stimulus).seats
    → now ≡ (after r stimulus Refused).seats
refused_seats a q now r stimulus is same h = h ∙ ap (λ (x : SeatRequest). (after_for x Refused r stimulus).seats) (is ∙ ap (λ (s : Seats). asked_by s stimulus) same)

abbrev pub IsAgain : Changes → Serving → Serving → Type 0
IsAgain held s r = ((held ≡ no_changes) × (s.seats ≡ r.seats)) ⊎ (r ≡ restarted r.core.rows r.seats)

first_more : (a : SeatRequest) (s r : Serving) (stimulus : Stimulus Job) (fate : Fate) (held now : Changes) → UnlessEvent a ((now ≡ held) × (fate ≡ Done)) → held ≡ no_changes → s.seats ≡ r.seats
    → IsAgain now (after_for a fate s stimulus) (after_for a Refused r stimulus)
first_more (Event event) s r stimulus fate held now quiet none same = inr refl
first_more Nothing s r stimulus fate held now quiet none same = inl (quiet.0 ∙ none, same)
first_more Taken s r stimulus fate held now quiet none same = inl (quiet.0 ∙ none, same)
first_more (Forget before from most) s r stimulus fate held now quiet none same = inr refl
first_more (Enrol account) s r stimulus fate held now quiet none same = inr refl

-- an item more: nothing happened yet, or the second is what starts again
pub again_more : (a b : SeatRequest) (s r : Serving) (stimulus : Stimulus Job) (fate : Fate) (held now : Changes) → (s.seats ≡ r.seats → a ≡ b) → UnlessEvent a ((now ≡ held) × (fate ≡ Done)) → IsAgain held s r
    → IsAgain now (after_for a fate s stimulus) (after_for b Refused r stimulus)
again_more a b s r stimulus fate held now alike quiet (inl first) =
    subst (λ (x : SeatRequest). IsAgain now (after_for a fate s stimulus) (after_for x Refused r stimulus)) (alike first.1) (first_more a s r stimulus fate held now quiet first.0 first.1)
again_more a b s r stimulus fate held now alike quiet (inr again) = inr (after_again b r stimulus again)

refused_first : (a : SeatRequest) (r : Serving) (stimulus : Stimulus Job) (fate : Fate) (quiet : Type 0) → UnlessEvent a (quiet × (fate ≡ Done)) → fate ≡ Refused
    → after_for a Refused r stimulus ≡ restarted (after_for a Refused r stimulus).core.rows (after_for a Refused r stimulus).seats
refused_first (Event event) r stimulus fate quiet h is = refl
refused_first Nothing r stimulus fate quiet h is = let done = h.1 in absurd cc
refused_first Taken r stimulus fate quiet h is = let done = h.1 in absurd cc
refused_first (Forget before from most) r stimulus fate quiet h is = refl
refused_first (Enrol account) r stimulus fate quiet h is = refl

-- after an item that was refused, the second is what starts again
pub again_refused : (a b : SeatRequest) (s r : Serving) (stimulus : Stimulus Job) (fate : Fate) (held now : Changes) → (s.seats ≡ r.seats → a ≡ b) → UnlessEvent a ((now ≡ held) × (fate ≡ Done)) → fate ≡ Refused
    → IsAgain held s r → after_for b Refused r stimulus ≡ restarted (after_for b Refused r stimulus).core.rows (after_for b Refused r stimulus).seats
again_refused a b s r stimulus fate held now alike quiet is (inl first) =
    subst (λ (x : SeatRequest). after_for x Refused r stimulus ≡ restarted (after_for x Refused r stimulus).core.rows (after_for x Refused r stimulus).seats) (alike first.1)
    (refused_first a r stimulus fate (now ≡ held) quiet is)
again_refused a b s r stimulus fate held now alike quiet is (inr again) = after_again b r stimulus again

pub by_fate : {A X B Y : Type 0} (f : Fate) → MatchFate f A B → (A → X) → (f ≡ Refused → B → Y) → MatchFate f X Y
by_fate Done h f g = f h
by_fate NoMemory h f g = f h
by_fate Refused h f g = g refl h

-- where something was to be committed, the second is what starts again
pub again_of : (held : Changes) (s r : Serving) → (held ≡ no_changes → ⊥) → IsAgain held s r → r ≡ restarted r.core.rows r.seats
again_of held s r some (inl first) = absurd (some first.0)
again_of held s r some (inr again) = again

module _ {K A : Type 0} (state : K → KeepState Rows) where
  -- between two groups no account is one that may be let go
  pub all_settled : (service : Service K A) (s : Serving) → Represents s.core service.seated.machine.centre → service.accounts ≡ length s.core.rows.setup.accounts → HasAccounts service s
  all_settled service s centre count = record {
    come = none_come s.core.rows.setup.accounts (accounts_in service.seated) (accounts_are s.core service.seated.machine.centre centre);
    count = count;
  }

  -- a service between two groups
  pub stands_on : (service : Service K A) (s : Serving) → held_by service.seated ≡ no_changes → (state (store_in service)).holds (bare s.core.rows) → Represents s.core service.seated.machine.centre
      → seats_in service.seated.seat_map ≡ s.seats → seats_in service.resumed ≡ s.seats → service.accounts ≡ length s.core.rows.setup.accounts → IsServedBy state service s
  stands_on service s none holds centre seats resumed count = record {
    made = record { rows = (holds, settled (held_by service.seated) (bare s.core.rows) none); centre = centre; seats = seats };
    sound = centre.centre.sound.rows;
    seats = resumed;
    again = inl (none, refl);
    accounts = all_settled service s centre count;
  }

  -- a service that starts again with the rows of its store, and with its accounts
  pub stands_again : (service now : Service K A) (r : Serving) → IsAwaitedBy state service r → held_by now.seated ≡ no_changes
      → ((state (store_in service)).holds (bare r.core.rows)
      → (state (store_in now)).holds (bare r.core.rows) × Represents (restarted r.core.rows (seats_in service.resumed)).core now.seated.machine.centre)
      → ((state (store_in service)).is_closed → ⊥) → seats_in now.seated.seat_map ≡ seats_in service.resumed → seats_in now.resumed ≡ seats_in service.resumed
      → now.accounts ≡ service.accounts → IsServedBy state now r
  stands_again service now r awaited none there not_closed seats resumed same =
      let waiting = awaited.waiting in
      let got = there (⊎_elim (λ (h : (state (store_in service)).holds (bare r.core.rows)). h) (λ (h : (state (store_in service)).is_closed). let no : ⊥ = not_closed h in absurd no) waiting.rows) in
      stands_on now r none got.0
      (subst (λ (c : Core). Represents c now.seated.machine.centre) (ap (λ (q : Seats). (restarted r.core.rows q).core) waiting.seats ∙ sym (ap (λ (x : Serving). x.core) waiting.again)) got.1)
      (seats ∙ waiting.seats) (resumed ∙ waiting.seats) (same ∙ awaited.accounts.count)
