-- What is planned is what the event leads to.
use Rattle.std.proofs.Common.{◌≡◌, List, [], ◌∷◌, false, sym, ◌∙◌, ap, subst}
use Rattle.sms_centre_rows.specs.declared.waiting.handset_link.Sent.{Sent as SentRow}
use Rattle.sms_centre_spec.specs.CentreEvent.{happened}
use Rattle.sms_centre_spec.specs.Draft.{core_of, draft_of}
use Rattle.sms_world_model.specs.WorldStep.{end}
use Rattle.sms_world_model.specs.ScriptRun.{items}
use Rattle.sms_world_model.specs.World.{World}
use Rattle.sms_world.specs.centres_refine_the_world.CentreRefinement.{CentreRefines}
use Rattle.sms_world.specs.centres_refine_the_world.FramesOut.{stacked_down}
use Rattle.sms_world.specs.centre_runs_are_steps.Run.{Whole}
use Rattle.sms_world.specs.centre_runs_are_steps.RunEvents.{moment_at}
use Rattle.sms_world.proofs.centre_runs_are_steps.Runs.{run_is_steps}
use Rattle.sms_world.specs.plans_are_steps.PlannedSteps.{PlannedLaw}

pub plans_lead : PlannedLaw
plans_lead number event c p w plans sound offered is may refines =
    let x = run_is_steps (Whole number event ∷ []) c w sound offered refines (is, may) in
    let steps = x.1.0.0 in
    let k = x.1.0.1 in
    let v : World = end w (items (moment_at event c) false steps) in
    let at : x.0 ≡ v = k.2 in
    let told : p.outputs.frames ≡ (happened event c).links.frames = plans.outputs.frames in
    let bag : v.bag ≡ stacked_down p.outputs.frames w.bag = ap (λ (z : World). z.bag) (sym at) ∙ k.3 ∙ ap (λ (fs : List SentRow). stacked_down fs w.bag) (sym told) in
    (steps, (k.0, k.1, bag, subst (λ (z : World). CentreRefines z (draft_of (core_of (happened event c))) z) at x.1.1.2, x.1.1.0, x.1.1.1))
