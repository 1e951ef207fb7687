-- What a plan leads to.
use Rattle.std.proofs.Common.{◌≡◌, ℕ, Bool, false, sym, subst, Result, Ok, Err}
use Rattle.std.proofs.lemmas.Bool.{cond_both}
use Rattle.sms_centre_spec.proofs.EventLaws.{stays_sound}
use Rattle.sms_centre_spec.proofs.Resting.{adopted_is}
use Rattle.sms_centre_spec.specs.CentreEvent.{happened}
use Rattle.sms_centre_spec.specs.Draft.{Core, Draft, draft_of}
use Rattle.sms_centre_spec.specs.Planning.{Outcome, all_answered, outcome_of, planned}
use Rattle.sms_centre_spec.specs.declared.plan_error.PlanError.{PlanError}
use Rattle.sms_centre_spec.specs.declared.plan_error.PlanError.TheVariants.{NoBody}
use Rattle.sms_centre_spec.specs.SoundCore.{IsSoundCore}
use Rattle.sms_world.specs.centre_runs_are_steps.Offered.{HasOffered}
use Rattle.sms_world.proofs.centre_runs_are_steps.AfterOffers.{event_offered}
use Rattle.sms_world_model.specs.WorldStep.{end}
use Rattle.sms_world_model.specs.ScriptRun.{items}
use Rattle.sms_world_model.specs.World.{World}
use Rattle.sms_world.specs.centres_refine_the_world.CentreRefinement.{CentreRefines}
use Rattle.sms_world.proofs.centres_refine_the_world.Staying.{next_refines}
use Rattle.sms_world.specs.centre_runs_are_steps.RunEvents.{moment_at}
use Rattle.sms_world.specs.centre_runs_are_steps.PlanLaws.{LeadsOn, PlanLaw}
use Rattle.sms_world.proofs.centre_runs_are_steps.EveryEvent.{every_event}

-- a plan is what came of the event
planned_is : (answers : ℕ → Bool) (d : Draft) (outcome : Outcome) → planned answers d ≡ Ok outcome → outcome_of d ≡ outcome
planned_is answers d outcome e =
    cond_both (all_answered answers d.links.read) (Ok (outcome_of d)) (Err NoBody) (λ (r : Result Outcome PlanError). r ≡ Ok outcome → outcome_of d ≡ outcome)
    (λ t q. let same : outcome_of d ≡ outcome = cc in same) (λ t q. absurd cc) e

pub plan_leads : PlanLaw
plan_leads answers number event c outcome w planned_so sound k is may s =
    let d : Draft = happened event c in
    let x = every_event number event c w sound k is may s in
    let v : World = end w (items (moment_at event c) false x.0) in
    subst (λ (o : Outcome). LeadsOn number event c o w) (planned_is answers d outcome planned_so) (
      x.0,
      (
        x.1.0,
        x.1.1,
        x.1.2.frames,
        subst (λ (z : Core). CentreRefines v (draft_of z) v) (sym (adopted_is event c)) (next_refines w d v x.1.2),
        subst (λ (z : Core). IsSoundCore z) (sym (adopted_is event c)) (stays_sound event c sound is),
        subst (λ (z : Core). HasOffered z) (sym (adopted_is event c)) (event_offered event c sound is),
      ),
    )
