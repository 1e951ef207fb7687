-- A tick of the centre: messages expire, old status reports are dropped, timers fire, and links that were up come up.
use Rattle.std.proofs.Common.{◌≡◌, ℕ, ◌≤◌, arith, max, [], false, refl, sym, subst, inl}
use Rattle.sms_centre_spec.proofs.SoundAccepted.{sound_steady, sound_still}
use Rattle.sms_centre_spec.proofs.SoundEvents.{event_after}
use Rattle.sms_centre_spec.proofs.SoundStores.{SoundStore}
use Rattle.sms_centre_spec.proofs.SteadyTimes.{dropped_steady, expired_steady}
use Rattle.sms_centre_spec.proofs.SoundBegins.{greatest}
use Rattle.sms_centre_spec.specs.CentreEvent.{aged, at_moment, dropped, expired, fired, raised}
use Rattle.sms_centre_spec.specs.Draft.{Draft, Store, draft_of, handsets_in, references_in}
use Rattle.sms_centre_spec.specs.declared.event.CentreEvent.TheVariants.{Tick}
use Rattle.sms_world_model.proofs.Allocations.{still_refines}
use Rattle.sms_world_model.specs.WorldStep.{end}
use Rattle.sms_world_model.specs.ScriptRun.{Tick_centre, items}
use Rattle.sms_world_model.specs.World.{World}
use Rattle.sms_world.specs.centres_refine_the_world.CentreLaws.{TickLaw}
use Rattle.sms_world.specs.centres_refine_the_world.CentreRefinement.{CentreRefines, StoreRefines}
use Rattle.sms_world.specs.centres_refine_the_world.RefinesGiven.{seconds_by}
use Rattle.sms_world.proofs.centres_refine_the_world.Aging.{InTick, reached_then, dropped_is_reached, expired_is_reached}
use Rattle.sms_world.proofs.centres_refine_the_world.Ending.{IsReached}
use Rattle.sms_world.proofs.centres_refine_the_world.Firing.{StageIsSteps, fired_goes, fired_sound, steps_still, steps_then, raise_all_refines}
use Rattle.sms_world.proofs.centres_refine_the_world.Playing.{Acts, acts_lead, store_is_reached}
use Rattle.sms_world.proofs.centres_refine_the_world.QuietEvents.{start}

later_refines : (n : ℕ) (s : Store) (w : World) → StoreRefines s w → s.moment ≤ n → StoreRefines (record s { moment = n }) w
later_refines n s w refines past = record {
  table = refines.table;
  reports = refines.reports;
  holders = refines.holders;
  seconds = still_refines (seconds_by (handsets_in s) (references_in s)) w.down s.moment n refines.seconds past;
}

aged_is_steps : (n : ℕ) (w : World) (d : Draft) → n ≡ d.store.moment → SoundStore d.store → CentreRefines w d w → StageIsSteps n w (aged d) w
aged_is_steps n w d now sound s =
    let e : Store = expired d.store in
    let k : SoundStore e = expired_steady SoundStore sound_still d.store sound in
    let first : IsReached InTick n e w = subst (λ (z : ℕ). IsReached InTick z e w) (sym now) (expired_is_reached d.store w sound s.rows) in
    let both : IsReached InTick n (dropped e) w = reached_then n e (dropped e) w first (λ v y. dropped_is_reached n e v k y) in
    (both.0, (both.1.0, both.1.1, store_is_reached w (dropped e) d w (end w (items n false both.0)) s both.1.2 both.1.3))

pub tick_event : TickLaw
tick_event now c w sound is s =
    let n : ℕ = max c.moment now in
    let past : c.moment ≤ n = omega arith in
    let d : Draft = at_moment now (draft_of c) in
    let k : SoundStore d.store = sound_steady.later n (draft_of c).store (start c sound) past (greatest c.moment now sound.now is) in
    let refines : CentreRefines w d w = record { frames = s.frames; whole = s.whole; links = s.links; rows = later_refines n (draft_of c).store w s.rows past } in
    let a : Draft = aged d in
    let ka : SoundStore a.store = dropped_steady SoundStore sound_still (expired d.store) (expired_steady SoundStore sound_still d.store k) in
    let f : Draft = fired a in
    let kf : SoundStore f.store = fired_sound a ka in
    let goes : StageIsSteps n w (raised f) w =
    steps_then n w f (raised f) w (steps_then n w a f w (aged_is_steps n w d refl k refines) (λ v y. fired_goes n w a v ka y))
    (λ v y. steps_still n w (raised f) v (raise_all_refines w f.links.all f v kf y)) in
    let acts : Acts Tick_centre n w (raised f) = record {
      own = [];
      follows = goes.0;
      is_own = refl;
      may_follow = goes.1.0.0;
      own_centre = tt;
      follows_centre = goes.1.0.1;
      own_runs = tt;
      runs = goes.1.1;
      refines = goes.1.2;
    } in
    acts_lead Tick_centre (λ x q. inl q) n w (raised f) acts (event_after (Tick now) c sound tt is).store.0
