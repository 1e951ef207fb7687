-- A handset's course is steps of the world, episode by episode.
use Rattle.std.proofs.Common.{◌≡◌, ℕ, ◌≤◌, arith, List, [], ◌∷◌, Bool, true, false, refl, sym, ◌∙◌, ap, subst, ⊎_elim, Ok}
use Rattle.sms_handset.specs.declared.event.HandsetEvent.{HandsetEvent}
use Rattle.sms_handset_draft.specs.declared.rows.Rows.{Rows}
use Rattle.sms_handset_draft.specs.declared.setup.Setup.{Setup}
use Rattle.sms_handset_draft.specs.Draft.{Changes, Core, Draft, HandsetOf, draft_of, recovered, rows_after}
use Rattle.sms_handset.specs.Planning.{PlanOf, adopted}
use Rattle.sms_handset_draft.specs.Outcome.{Outcome}
use Rattle.sms_handset.specs.SoundCore.{IsSoundCore}
use Rattle.sms_handset.specs.SoundRows.{IsSetup, IsSound}
use Rattle.sms_handset_draft.specs.FirstRows.{first_rows}
use Rattle.sms_handset.proofs.SoundBeginnings.{first_sound, other_setup}
use Rattle.sms_handset.proofs.SoundEvents.{event_sound}
use Rattle.sms_world_model.specs.WorldStep.{end, Step}
use Rattle.sms_world_model.specs.ScriptRun.{items}
use Rattle.sms_world_model.specs.Sides.{AllOfCentre, AllOfHandset}
use Rattle.sms_world_model.specs.World.{World, empty}
use Rattle.sms_world.specs.handset_runs_are_steps.Run.{AreOthers, RunLaw, Episode, FirstRunLaw, IsSteps, MayLead, MayPlan, Others, Restart, Stopped, Whole}
use Rattle.sms_world.specs.handset_runs_are_steps.PlanLaws.{IsPlanned, event_seen}
use Rattle.sms_world.specs.handset_runs_are_steps.PutInOrder.{AreNoted}
use Rattle.sms_world.specs.handset_runs_are_steps.Refinement.{Refines}
use Rattle.sms_world.proofs.handset_runs_are_steps.Others.{centre_event, other_event}
use Rattle.sms_world.proofs.handset_runs_are_steps.Plans.{event_happens, event_planned}
use Rattle.sms_world.proofs.handset_runs_are_steps.Restarts.{start_seen, stop_event, stopped_seen}

-- ---- soundness

adopts_sound : (event : HandsetEvent) (s : HandsetOf) (plan : PlanOf) → IsPlanned plan s event → IsSoundCore s.core → IsSoundCore (adopted plan.outcome s.core)
adopts_sound event s plan p sound = event_sound event (Ok plan) s p.frame p.tick p.write p.delete p.discard sound

pub recovered_sound : (rows : Rows) → IsSound rows → IsSoundCore (recovered rows)
recovered_sound rows s = record { rows = s; recovered = λ e. refl; under_way = tt; few_notices = (let l : 0 ≤ 200 = omega arith in l) }

-- ---- one episode

-- what it leads to is sound, and sees the world that it leads to
abbrev Leads : List ℕ → Episode → HandsetOf → World → Type 0
Leads h e z w = (v : World) × (IsSteps h e w v × IsSoundCore z.core × Refines h v (draft_of z.core) v)

module _ (h : List ℕ) (s z : HandsetOf) (w : World) (sound : IsSoundCore s.core) (refines : Refines h w (draft_of s.core) w) where
  -- the handset is such a one
  becomes : (e : Episode) (c : Core) (v : World) → z.core ≡ c → IsSteps h e w v → IsSoundCore c → Refines h v (draft_of c) v → Leads h e z w
  becomes e c v q steps i k =
      (v, (steps, subst (λ (x : Core). IsSoundCore x) (sym q) i, subst (λ (x : Core). Refines h v (draft_of x) v) (sym q) k))

  whole_leads : (m number : ℕ) (event : HandsetEvent) (plan : PlanOf) → MayPlan h number event plan s w → z.core ≡ adopted plan.outcome s.core → Leads h (Whole m number event plan) z w
  whole_leads m number event plan p q =
      let y = event_planned m h number event s plan w p.0 sound refines p.1 in
      becomes (Whole m number event plan) (adopted plan.outcome s.core) (end w (items m false y.0)) q (y.0, (y.1.0, y.1.1, refl, y.1.2, y.1.3))
      (adopts_sound event s plan p.0 sound) y.1.4

  stopped_leads : (m number : ℕ) (event : HandsetEvent) (plan : PlanOf) (setup : Setup) → MayPlan h number event plan s w → IsSetup setup
      → z.core ≡ recovered (record (rows_after plan.outcome.changes s.core.rows) { setup = setup }) → Leads h (Stopped m number event plan setup) z w
  stopped_leads m number event plan setup p t q =
      let x = event_happens m h number event s plan w p.0 sound refines p.1 in
      let d : Draft = x.0 in
      let y = stop_event m (event_seen number event) h d setup w x.1.2 in
      let v : World = end w (items m true y.0) in
      let same : plan.outcome.changes ≡ d.changes = ap (λ (o : Outcome). o.changes) x.1.0 in
      let rows : d.rows ≡ rows_after plan.outcome.changes s.core.rows = x.1.1 ∙ ap (λ (c : Changes). rows_after c s.core.rows) (sym same) in
      let left : Core = recovered (record (rows_after plan.outcome.changes s.core.rows) { setup = setup }) in
      becomes (Stopped m number event plan setup) left v q (y.0, (y.1.0, y.1.1, refl, subst (λ (c : Changes). AreNoted h c w v) (sym same) y.1.3))
      (recovered_sound (record (rows_after plan.outcome.changes s.core.rows) { setup = setup })
      (other_setup (rows_after plan.outcome.changes s.core.rows) setup (adopts_sound event s plan p.0 sound).rows t))
      (subst (λ (r : Rows). Refines h v (draft_of (recovered (record r { setup = setup }))) v) rows y.1.2)

  restart_leads : (setup : Setup) → IsSetup setup → z.core ≡ recovered (record s.core.rows { setup = setup }) → Leads h (Restart setup) z w
  restart_leads setup t q =
      becomes (Restart setup) (recovered (record s.core.rows { setup = setup })) w q refl
      (recovered_sound (record s.core.rows { setup = setup }) (other_setup s.core.rows setup sound.rows t)) (stopped_seen h w w.bag (draft_of s.core) setup w refines)

  others_lead : (m : ℕ) (b : Bool) (steps : List Step) → AreOthers h steps → z.core ≡ s.core → Leads h (Others m b steps) z w
  others_lead m b steps o q =
      let v : World = end w (items m b steps) in
      let k : Refines h v (draft_of s.core) v = ⊎_elim
      (λ (a : AllOfCentre steps). (centre_event h s.core w m b steps a refines).0)
      (λ (a : (g : List ℕ) × (¬ (g ≡ h) × AllOfHandset g steps)). (other_event h a.0 s.core w m b steps a.1.0 a.1.1 refines).0)
      o in
      becomes (Others m b steps) s.core v q refl sound k

  pub leads : (e : Episode) → MayLead h e s w z → Leads h e z w
  leads (Whole m number event plan) x = whole_leads m number event plan x.0 x.1
  leads (Stopped m number event plan setup) x = stopped_leads m number event plan setup x.0 x.1 x.2
  leads (Restart setup) x = restart_leads setup x.0 x.1
  leads (Others m b steps) x = others_lead m b steps x.0 x.2

-- ---- all of them

pub run_is_steps : RunLaw
run_is_steps h [] s w sound refines = (sound, refines)
run_is_steps h (e ∷ es) s w sound refines = λ z x.
    let y = leads h s z w sound refines e x in
    (y.0, (y.1.0, run_is_steps h es z y.0 y.1.1 y.1.2))

pub first_run_is_steps : FirstRunLaw
first_run_is_steps h es setup s t q =
    run_is_steps h es s empty
    (subst (λ (x : Core). IsSoundCore x) (sym q) (recovered_sound (first_rows setup) (first_sound setup t)))
    (subst (λ (x : Core). Refines h empty (draft_of x) empty) (sym q) (start_seen h (first_rows setup).counters setup))
