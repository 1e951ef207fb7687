-- An event of the centre tells what its steps gave.
use Rattle.std.proofs.Common.{◌≡◌, ℕ, List, ◌++◌, Bool, sym, ◌∙◌, ap, subst}
use Rattle.sms_base.proofs.Lists.{among_back, among_front}
use Rattle.sms_base.specs.Among.{Among}
use Rattle.sms_centre_spec.specs.CentreEvent.{happened}
use Rattle.sms_play.specs.CentreSide.{given_by}
use Rattle.sms_world_model.specs.Agreement.{GivenOnce}
use Rattle.sms_world_model.specs.WorldStep.{Run, end, Step}
use Rattle.sms_world_model.specs.ScriptRun.{items}
use Rattle.sms_world_model.specs.World.{Allocation, World, empty}
use Rattle.sms_world_model.proofs.Runs.{sound_empty, sound_run}
use Rattle.sms_world_model.proofs.Scripts.{end_joins, run_joins}
use Rattle.sms_world_model.proofs.Sound.{IsSound as IsSoundWorld}
use Rattle.sms_world.specs.scripts_are_runs.AllocationLaws.{IsReached, AgreementLaw}
use Rattle.sms_world.specs.headline.SeenWorld.{AgreesDown}
use Rattle.sms_world.proofs.scripts_are_runs.GivenBy.{event_agrees}
use Rattle.sms_world.proofs.scripts_are_runs.Growing.{GrownOnce, not_twice, steps_grow}
use Rattle.sms_world.proofs.scripts_are_runs.HoldersApart.{event_differs, rows_now}
use Rattle.sms_world.proofs.scripts_are_runs.PutsReported.{rows_fall}
use Rattle.sms_world.proofs.scripts_are_runs.Latest.{agrees_more}

pub goes_on : (w : World) (m : ℕ) (b : Bool) (steps : List Step) → IsReached w → Run w (items m b steps) → IsReached (end w (items m b steps))
goes_on w m b steps (is, (run, at)) more = (
  is ++ items m b steps,
  (
    run_joins empty is (items m b steps) run (subst (λ (v : World). Run v (items m b steps)) (sym at) more),
    end_joins empty is (items m b steps) ∙ ap (λ (v : World). end v (items m b steps)) at,
  ),
)

pub sound_there : (w : World) → IsReached w → IsSoundWorld w
sound_there w (is, (run, at)) = subst (λ (v : World). IsSoundWorld v) at (sound_run empty is sound_empty run)

pub event_reported : AgreementLaw
event_reported event c w m b steps given sound is moment one reached run before later tells =
    let v : World = end w (items m b steps) in
    let once : GrownOnce m w.down v.down = steps_grow w m b steps one in
    let ds : List Allocation = once.grown.more in
    let world : IsSoundWorld v = sound_there v (goes_on w m b steps reached run) in
    let there : (x : Allocation) → Among x (ds ++ w.down) → Among x v.down = λ x i. subst (λ (gs : List Allocation). Among x gs) (sym once.grown.is) i in
    subst (λ (gs : List Allocation). AgreesDown (given ++ given_by (happened event c)) gs) (sym once.grown.is)
    (agrees_more m given (given_by (happened event c)) w.down ds tells (record {
      all = event_agrees event c sound is w v m before later once.grown world;
      rows = rows_fall event c sound is;
      allocations = once.falls;
      rows_now = λ g i. rows_now (happened event c) g i ∙ moment;
      now = once.grown.now;
      differ = event_differs event c sound is;
      new = λ x y i j e.
          let same : x ≡ y = world.single x y (there x (among_front x ds w.down i)) (there y (among_back y ds w.down j)) e in
          not_twice ds w.down (subst (λ (gs : List Allocation). GivenOnce gs) once.grown.is world.given) x i (subst (λ (z : Allocation). Among z w.down) (sym same) j);
    }))
