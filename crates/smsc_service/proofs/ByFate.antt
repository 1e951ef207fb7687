-- What comes of a stimulus, by what befell it.
use Rattle.std.proofs.Common.{◌≡◌, ◌≢◌, ◌⊎◌, ⊎_elim, inl, inr, sym, subst, ap, ◌∙◌, ℕ, List, [], Option, Err}
use Rattle.sms_centre.specs.Enrolling.{enrolled}
use Rattle.sms_centre.specs.state.CentreState.{Represents, CentreStateOf}
use Rattle.sms_rows.specs.declared.keep.refusals.Refusals.{Refusals}
use Rattle.smsc_service.specs.Stepping.{OneRefused, PlansStep}
use Rattle.smsc_service.specs.declared.step_error.StepError.{StepError}
use Rattle.smsc_service.specs.declared.step_error.StepError.TheVariants.{NoMemory as NoPlan, NoBody, Store}
use Rattle.sms_centre_spec.specs.CentreEvent.{happened}
use Rattle.sms_centre_spec.specs.Draft.{core_of}
use Rattle.sms_centre_spec.specs.declared.answer.CentreAnswer.{CentreAnswer}
use Rattle.sms_centre_spec.specs.declared.event.CentreEvent.{CentreEvent}
use Rattle.sms_centre_spec.specs.forgetting.Forget.{forget}
use Rattle.sms_centre_spec.specs.declared.rows.Rows.{Rows}
use Rattle.sms_centre_spec.specs.declared.jobs.job.Job.{Job}
use Rattle.sms_centre_spec.specs.declared.jobs.reply.Reply.{Reply}
use Rattle.sms_intake.specs.declared.submission.CentreAccount.{CentreAccount}
use Rattle.sms_keeper.specs.declared.machine.Fate.{Fate}
use Rattle.sms_keeper.specs.declared.machine.Fate.TheVariants.{Done, NoMemory, Refused}
use Rattle.sms_keeper.specs.declared.machine.Stimulus.{Stimulus}
use Rattle.sms_keeper.specs.declared.outs.Out.{Out}
use Rattle.smsc_service.specs.declared.asking.SeatRequest.{SeatRequest}
use Rattle.smsc_service.specs.declared.asking.SeatRequest.TheVariants.{Event, Forget, Enrol}
use Rattle.smsc_service.specs.declared.seat_map.SeatMap.{SeatMap}
use Rattle.smsc_service.specs.Seats.{seats_in}
use Rattle.smsc_service.specs.Serving.{GivesUp, IsServing, Serves, Serving, followed_by}
use Rattle.smsc_service.specs.Replies.{failed_by, replies_to}

-- ---- nothing was refused

pub was_done : (fate : Fate) (wanted : Type 0) → fate ≡ Done → fate ≡ Refused → wanted
was_done fate wanted is e = absurd cc

pub was_undone : (fate : Fate) (wanted : Type 0) → fate ≡ NoMemory → fate ≡ Refused → wanted
was_undone fate wanted is e = absurd cc

pub not_done : (fate : Fate) (wanted : Type 0) → fate ≡ NoMemory → fate ≡ Done → wanted
not_done fate wanted is e = absurd cc

pub done_is_made : (fate : Fate) → fate ≡ Done → fate ≢ NoMemory
done_is_made fate is e = not_done fate ⊥ e is

pub was_given_up : (error : StepError) (fate : Fate) (wanted : Type 0) → GivesUp error fate → fate ≡ Done → wanted
was_given_up NoPlan fate wanted is e = absurd cc
was_given_up NoBody fate wanted is e = absurd cc
was_given_up (Store error) fate wanted is e = absurd cc

-- where a plan's failure is a refusal, the store refused a read
pub was_refused : (held closed : Type 0) (first last : Refusals) (s : Serving) (event : CentreEvent) (error : StepError) (fate : Fate)
    → GivesUp error fate → PlansStep held closed first last (happened event s.core) (Err error) → fate ≡ Refused → OneRefused first last
was_refused held closed first last s event NoPlan fate gives left e = was_undone fate (OneRefused first last) gives e
was_refused held closed first last s event NoBody fate gives left e = left.1
was_refused held closed first last s event (Store error) fate gives left e = absurd left

-- ---- what is served

module _ (held : Rows → Type 0) (left : Type 0) (centre : CentreStateOf) (seat_map : SeatMap) (s : Serving) (stimulus : Stimulus Job) where
  pub with_fate : (asked : SeatRequest) (fate wanted : Fate) (outs : List (Out Reply)) → fate ≡ wanted → Serves held left centre seat_map asked s stimulus wanted outs → Serves held left centre seat_map asked s stimulus fate outs
  with_fate asked fate wanted outs is k = subst (λ (f : Fate). Serves held left centre seat_map asked s stimulus f outs) (sym is) k

  module _ (before from most : ℕ) (fate : Fate) (outs : List (Out Reply)) where
    -- what may go went
    pub is_forgotten : fate ≡ Done → outs ≡ [] → held (core_of (forget before from most s.core)).rows → Represents (core_of (forget before from most s.core)) centre
        → seats_in seat_map ≡ s.seats → Serves held left centre seat_map (Forget before from most) s stimulus fate outs
    is_forgotten is outputs rows centre_state seats =
        with_fate (Forget before from most) fate Done outs is (outputs, record { rows = rows; centre = centre_state; seats = seats })

    -- nothing went
    pub is_kept : fate ≡ NoMemory → outs ≡ failed_by stimulus → IsServing held centre seat_map s → Serves held left centre seat_map (Forget before from most) s stimulus fate outs
    is_kept is outputs serving = with_fate (Forget before from most) fate NoMemory outs is (outputs, serving)

  module _ (account : CentreAccount) (fate : Fate) (outs : List (Out Reply)) where
    -- the account came
    pub has_come : fate ≡ Done → outs ≡ [] → held (enrolled account s.core).rows → Represents (enrolled account s.core) centre
        → seats_in seat_map ≡ s.seats → Serves held left centre seat_map (Enrol account) s stimulus fate outs
    has_come is outputs rows centre_state seats =
        with_fate (Enrol account) fate Done outs is (outputs, record { rows = rows; centre = centre_state; seats = seats })

    -- none came
    pub none_came : fate ≡ NoMemory → outs ≡ failed_by stimulus → IsServing held centre seat_map s → Serves held left centre seat_map (Enrol account) s stimulus fate outs
    none_came is outputs serving = with_fate (Enrol account) fate NoMemory outs is (outputs, serving)

  module _ (event : CentreEvent) (fate : Fate) (outs : List (Out Reply)) where
    -- it happened
    pub is_done : fate ≡ Done → outs ≡ replies_to s.seats stimulus (happened event s.core) → held (core_of (happened event s.core)).rows → Represents (core_of (happened event s.core)) centre
        → seats_in seat_map ≡ followed_by stimulus s.seats → Serves held left centre seat_map (Event event) s stimulus fate outs
    is_done is outputs rows centre_state seats = with_fate (Event event) fate Done outs is (outputs, record { rows = rows; centre = centre_state; seats = seats })

    -- nothing changed
    pub is_undone : fate ≡ NoMemory → outs ≡ failed_by stimulus → IsServing held centre seat_map s → Serves held left centre seat_map (Event event) s stimulus fate outs
    is_undone is outputs serving = with_fate (Event event) fate NoMemory outs is (outputs, serving)

    -- it was refused, and its group with it
    pub is_refused : fate ≡ Refused → outs ≡ failed_by stimulus → left → Serves held left centre seat_map (Event event) s stimulus fate outs
    is_refused is outputs there = with_fate (Event event) fate Refused outs is (outputs, there)

    -- nothing was planned
    pub gave_up : (holds closed : Type 0) (first last : Refusals) (error : StepError) → GivesUp error fate → outs ≡ failed_by stimulus
        → (holds → IsServing held centre seat_map s) → (holds ⊎ closed → left) → PlansStep holds closed first last (happened event s.core) (Err error)
        → Serves held left centre seat_map (Event event) s stimulus fate outs
    gave_up holds closed first last NoPlan gives outputs stays ends planned = is_undone gives outputs (stays planned.0)
    gave_up holds closed first last NoBody gives outputs stays ends planned = is_refused gives outputs (ends planned.0)
    gave_up holds closed first last (Store error) gives outputs stays ends planned = absurd planned
