-- What `premises` answers is right of the world.
use Rattle.sms_play.specs.PlayState.{PlayState}
use Rattle.sms_play.specs.PlayedEvent.{played}
use Rattle.sms_play.specs.Playing.{play_state_of}
use Rattle.sms_play.specs.Premises.{is_fresh_event, is_timely_event}
use Rattle.sms_play.specs.Setups.{beginning}
use Rattle.sms_script.specs.declared.play_fault.PlayFault.{PlayFault}
use Rattle.sms_script.specs.declared.event.WorldEvent.{WorldEvent}
use Rattle.sms_script.specs.declared.report.Broken.{Broken}
use Rattle.sms_script.specs.declared.report.Broken.TheVariants.{Reused, Timely}
use Rattle.sms_script.specs.declared.setup.Setup.{Setup}
use Rattle.sms_world.proofs.headline.HeadlineHolds.{nothing_more, one_run_is}
use Rattle.sms_world.specs.headline.Claims.{AllTimely, AllFresh, IfPlayed}
use Rattle.sms_world.specs.headline.DecidedPremises.{Breaks, BreaksFirst, Premises}
use Rattle.sms_world.specs.headline.OneRun.{AreFreshThere, IsEventRun, IsTimelyThere, Runs, world_after}
use Rattle.sms_world.specs.headline.TypedEvents.{AreTyped}
use Rattle.sms_world.specs.headline.WorldPremises.{AllKeep, BreaksFirstThere, BreaksThere, WorldPremises}
use Rattle.sms_world_model.specs.World.{World, empty}
use Rattle.sms_world_model.specs.WorldStep.{Step}
use Rattle.std.proofs.Common.{ap, inl, inr, subst, sym, ⊎_elim, ◌∙◌}
use Rattle.std.proofs.lemmas.Bool.{both_ways}
use Rattle.std.specs.Prelude.{Bool, List, None, Option, Result, Some, [], false, true, ℕ, ◌+◌, ◌↔◌, ◌∷◌, ◌≡◌}
use Rattle.sms_world.specs.headline.HeadlineLaws.{WorldLaw}
use Rattle.sms_world.proofs.headline.ExactPremises.{premises_are}
use Rattle.sms_play.proofs.answers.PlayAnswers.{ok_play, same_play}

if_next : (r : Result PlayState PlayFault) (next : PlayState) (P : PlayState → Type 0) → r ≡ ok_play next → IfPlayed r P → P next
if_next r next P e p = subst (λ (z : Result PlayState PlayFault). IfPlayed z P) e p

not_so : (b : Bool) (P : Type 0) → b ≡ false → ((b ≡ true) ↔ P) → ¬ P
not_so b P f k p = both_ways b f (k.1 p)

-- ---- both hold of each event

all_keep : (n : ℕ) (es : List WorldEvent) (c : PlayState) (w : World) (last : PlayState) (run : Runs n es c w last) → AllTimely n es c → AllFresh n es c → AllKeep n es c w last run
all_keep n [] c w last run t f = tt
all_keep n (e ∷ es) c w last run t f =
    let next : PlayState = run.1.0 in
    let at : IsEventRun n e c w run.1.1 next = run.1.2.0 in
    let timely : AllTimely (n + 1) es next = if_next (played n e c) next (λ d. AllTimely (n + 1) es d) at.is t.1 in
    let fresh : (is_fresh_event c next ≡ true) × AllFresh (n + 1) es next = if_next (played n e c) next (λ d. (is_fresh_event c d ≡ true) × AllFresh (n + 1) es d) at.is f in
    (at.timely.0 t.0, at.fresh.0 fresh.0, all_keep (n + 1) es next (world_after w e c run.1.1) last run.1.2.1 timely fresh.1)

-- ---- one does not

breaks_there : (n : ℕ) (e : WorldEvent) (c : PlayState) (w : World) (steps : List Step) (next : PlayState) (b : Broken) → IsEventRun n e c w steps next → Breaks n e c next b → BreaksThere n e c w steps b
breaks_there n e c w steps next (Timely k) at x = (x.0, not_so (is_timely_event e c) (IsTimelyThere e c w) x.1 at.timely)
breaks_there n e c w steps next (Reused k) at x = (x.0, at.timely.0 x.1, not_so (is_fresh_event c next) (AreFreshThere e c w steps) x.2 at.fresh)

breaks_first : (n : ℕ) (es : List WorldEvent) (c : PlayState) (w : World) (last : PlayState) (run : Runs n es c w last) (b : Broken) → BreaksFirst n es c b → BreaksFirstThere n es c w last run b
breaks_first n [] c w last run b x = absurd x
breaks_first n (e ∷ es) c w last run b x =
    let next : PlayState = run.1.0 in
    let at : IsEventRun n e c w run.1.1 next = run.1.2.0 in
    let same : x.0 ≡ next = same_play x.0 next (sym x.1.0 ∙ at.is) in
    ⊎_elim
    (λ (y : Breaks n e c x.0 b). inl (breaks_there n e c w run.1.1 next b at (subst (λ (d : PlayState). Breaks n e c d b) same y)))
    (λ (y : (is_timely_event e c ≡ true) × (is_fresh_event c x.0 ≡ true) × BreaksFirst (n + 1) es x.0 b).
    let fresh : is_fresh_event c next ≡ true = ap (λ (d : PlayState). is_fresh_event c d) (sym same) ∙ y.1 in
    let later : BreaksFirst (n + 1) es next b = subst (λ (d : PlayState). BreaksFirst (n + 1) es d b) same y.2 in
    inr (at.timely.0 y.0, at.fresh.0 fresh, breaks_first (n + 1) es next (world_after w e c run.1.1) last run.1.2.1 b later))
    x.1.1

-- ---- what is answered

run_there : (s : Setup) (events : List WorldEvent) (c : PlayState) → AreTyped events → play_state_of s events ≡ ok_play c → Runs 1 events (beginning s) empty c
run_there s events c typed leads =
    one_run_is (record { setup = s; events = events }) events [] c c (record { typed = typed; events = nothing_more events }) (record { here = leads; there = leads })

pub answer_is : (s : Setup) (events : List WorldEvent) (broken : Option Broken) → AreTyped events → Premises s events broken → WorldPremises s events broken
answer_is s events None typed p =
    let c : PlayState = p.0.0 in
    let run : Runs 1 events (beginning s) empty c = run_there s events c typed p.0.1 in
    record { play = c; leads = p.0.1; run = run; answer = all_keep 1 events (beginning s) empty c run p.1 p.2 }
answer_is s events (Some b) typed p =
    let c : PlayState = p.0.0 in
    let run : Runs 1 events (beginning s) empty c = run_there s events c typed p.0.1 in
    record { play = c; leads = p.0.1; run = run; answer = breaks_first 1 events (beginning s) empty c run b p.1 }

pub world_is : WorldLaw
world_is s events broken typed e = answer_is s events broken typed (premises_are s events broken e)
