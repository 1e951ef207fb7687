-- A step without memory, answered by its request.
use Rattle.std.proofs.Common.{◌≡◌, List, Option, Some, None, refl, sym, subst, ap, ◌∙◌}
use Rattle.smpp_pdu.specs.declared.status.CommandStatus.{CommandStatus}
use Rattle.sms_centre_spec.specs.Draft.{Core}
use Rattle.sms_centre_spec.specs.declared.rows.Rows.{Rows}
use Rattle.sms_centre_spec.specs.declared.jobs.job.Job.{Job}
use Rattle.sms_centre_spec.specs.declared.jobs.reply.Reply.{Reply}
use Rattle.sms_centre.specs.state.CentreState.{Represents, CentreStateOf}
use Rattle.sms_keeper.specs.Fates.{MatchFate}
use Rattle.sms_keeper.specs.declared.machine.Fate.{Fate}
use Rattle.sms_keeper.specs.declared.machine.Fate.TheVariants.{Done, NoMemory, Refused}
use Rattle.sms_keeper.specs.declared.machine.Stimulus.{Stimulus}
use Rattle.sms_keeper.specs.declared.outs.Out.{Out}
use Rattle.smsc_service.specs.declared.asking.SeatRequest.{SeatRequest}
use Rattle.smsc_service.specs.declared.asking.SeatRequest.TheVariants.{Event, Nothing, Taken, Forget, Enrol}
use Rattle.smsc_service.specs.declared.seat_map.SeatMap.{SeatMap}
use Rattle.smsc_service.specs.Serving.{IsServing, Serves, Serving, IsStep, after_for, gives_for, refusal_for, short_of, unless_refused}

module _ (held : Rows → Type 0) (left : Type 0) (centre : CentreStateOf) (seat_map : SeatMap) (s : Serving) (stimulus : Stimulus Job) where
  -- without memory nothing has changed
  unchanged : (asked : SeatRequest) → after_for asked NoMemory s stimulus ≡ s
  unchanged (Event event) = refl
  unchanged Nothing = refl
  unchanged Taken = refl
  unchanged (Forget before from most) = refl
  unchanged (Enrol account) = refl

  was_short : (asked : SeatRequest) (fate : Fate) → MatchFate fate (IsServing held centre seat_map (after_for asked fate s stimulus)) left → fate ≡ NoMemory → Represents s.core centre
  was_short asked fate there short =
      let now : MatchFate NoMemory (IsServing held centre seat_map (after_for asked NoMemory s stimulus)) left =
      subst (λ (f : Fate). MatchFate f (IsServing held centre seat_map (after_for asked f s stimulus)) left) short there in
      (subst (λ (x : Serving). IsServing held centre seat_map x) (unchanged asked) now).centre

  pub is_step : (asked : SeatRequest) (fate last : Fate) (outs given : List (Out Reply)) → last ≡ fate → Serves held left centre seat_map asked s stimulus fate outs
      → ((c : Core) → (fate ≡ NoMemory → Represents c centre) → given ≡ unless_refused fate (refusal_for asked c) stimulus outs) → IsStep held left centre seat_map asked s stimulus last given
  is_step asked fate last outs given same serves by = subst (λ (f : Fate). IsStep held left centre seat_map asked s stimulus f given) (sym same)
      (by s.core (was_short asked fate serves.1) ∙ ap (λ (l : List (Out Reply)). unless_refused fate (refusal_for asked s.core) stimulus l) serves.0, serves.1)

-- by whether it is refused
pub refused_then : (refusal : Option CommandStatus) (status : CommandStatus) (stimulus : Stimulus Job) (outs given : List (Out Reply)) → Some status ≡ refusal → given ≡ short_of (Some status) stimulus outs → given ≡ short_of refusal stimulus outs
refused_then refusal status stimulus outs given is e = e ∙ ap (λ (r : Option CommandStatus). short_of r stimulus outs) is

pub kept_then : (refusal : Option CommandStatus) (stimulus : Stimulus Job) (outs : List (Out Reply)) → None ≡ refusal → outs ≡ short_of refusal stimulus outs
kept_then refusal stimulus outs is = ap (λ (r : Option CommandStatus). short_of r stimulus outs) is

-- by its fate
pub short_then : (fate : Fate) (refusal : Option CommandStatus) (stimulus : Stimulus Job) (outs given : List (Out Reply)) → fate ≡ NoMemory → given ≡ short_of refusal stimulus outs → given ≡ unless_refused fate refusal stimulus outs
short_then fate refusal stimulus outs given is e = e ∙ sym (ap (λ (f : Fate). unless_refused f refusal stimulus outs) is)

pub other_then : (fate other : Fate) (refusal : Option CommandStatus) (stimulus : Stimulus Job) (outs : List (Out Reply)) → fate ≡ other → outs ≡ unless_refused other refusal stimulus outs → outs ≡ unless_refused fate refusal stimulus outs
other_then fate other refusal stimulus outs is e = e ∙ sym (ap (λ (f : Fate). unless_refused f refusal stimulus outs) is)
