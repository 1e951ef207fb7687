-- A centre's course, episode by episode.
use Rattle.std.proofs.Common.{◌≡◌, ℕ, List, [], ◌∷◌, true, false, refl, sym, ap, subst}
use Rattle.sms_centre_rows.specs.reports.Receipts.{Session}
use Rattle.sms_centre_spec.proofs.EventLaws.{stays_sound}
use Rattle.sms_centre_spec.proofs.SoundBegins.{first_sound, recovered_sound, started_sound}
use Rattle.sms_centre_spec.specs.CentreEvent.{happened, recovered, started}
use Rattle.sms_centre_spec.specs.Draft.{Core, Draft, draft_of, rows_of}
use Rattle.sms_centre_spec.specs.SoundCore.{IsSoundCore}
use Rattle.sms_centre_spec.specs.SoundRows.{IsSound, first_rows}
use Rattle.sms_centre_spec.specs.declared.event.CentreEvent.{CentreEvent}
use Rattle.sms_centre_spec.specs.declared.event.CentreEvent.TheVariants.{Bound, Cancel, DeliverAnswered, Frame, LinkDown, LinkUp, Ordered, Query, Submit, Tick, Unbound}
use Rattle.sms_centre_spec.specs.declared.order.Order.TheVariants.{Retry, Delete}
use Rattle.sms_centre_spec.specs.declared.rows.Rows.{Rows}
use Rattle.sms_world.specs.centre_runs_are_steps.Offered.{HasOffered}
use Rattle.sms_world.proofs.centre_runs_are_steps.AfterOffers.{back_offered, event_offered, first_offered}
use Rattle.sms_world_model.proofs.Stops.{centre_stopped_so}
use Rattle.sms_world_model.specs.WorldStep.{Run, end, Step}
use Rattle.sms_world_model.specs.ScriptRun.{Asked, Cancelled, Handed, Submitted, Tick_centre, items}
use Rattle.sms_world_model.specs.Sides.{AllOfCentre}
use Rattle.sms_world_model.specs.World.{World, empty, with_frames}
use Rattle.sms_world.specs.centres_refine_the_world.CentreRefinement.{CentreRefines}
use Rattle.sms_world.proofs.centres_refine_the_world.Beginning.{reached_back, first_refines}
use Rattle.sms_world.proofs.centres_refine_the_world.Staying.{handset_stays, next_refines}
use Rattle.sms_world.specs.centre_runs_are_steps.Run.{CanRestart, RunLaw, Episode, FirstRunLaw, IsScripted, IsSteps, MayBe, Others, Restart, Stopped, Whole, lead}
use Rattle.sms_world.specs.centre_runs_are_steps.RunEvents.{AreOfEvent, moment_at}
use Rattle.sms_world.proofs.centre_runs_are_steps.EveryEvent.{every_event}

-- ---- stopped events

-- as the world stops the event that it is
abbrev Stops : ℕ → CentreEvent → ℕ → World → List Step → Type 0
Stops number event m w steps =
    (rest : List Step)
    × ((AreOfEvent number event w rest × AllOfCentre rest) × Run w (items m true rest) × (end w (items m true rest) ≡ with_frames w.bag (end w (items m false steps))))

stops : (number : ℕ) (event : CentreEvent) (m : ℕ) (w : World) (steps : List Step) → IsScripted event → AreOfEvent number event w steps → AllOfCentre steps → Run w (items m false steps) → Stops number event m w steps
stops number (Submit account message) m w steps is are centre run = centre_stopped_so w Submitted m steps are centre run
stops number (Query account wanted) m w steps is are centre run = centre_stopped_so w Asked m steps are centre run
stops number (Cancel account wanted) m w steps is are centre run = centre_stopped_so w Cancelled m steps are centre run
stops number (Bound session account receives) m w steps is are centre run = absurd is
stops number (Unbound session) m w steps is are centre run = absurd is
stops number (DeliverAnswered session id is_accepted) m w steps is are centre run = absurd is
stops number (Frame handset octets tag) m w steps is are centre run = centre_stopped_so w (Handed number) m steps are centre run
stops number (LinkUp handset) m w steps is are centre run = absurd is
stops number (LinkDown handset) m w steps is are centre run = absurd is
stops number (Ordered Retry id) m w steps is are centre run = absurd is
stops number (Ordered Delete id) m w steps is are centre run = centre_stopped_so w Cancelled m steps are centre run
stops number (Tick now) m w steps is are centre run = centre_stopped_so w Tick_centre m steps are centre run

-- ---- one episode

abbrev Leads : Episode → Core → World → Type 0
Leads e c w = (v : World) × (IsSteps e c w v × IsSoundCore (lead e c) × HasOffered (lead e c) × CentreRefines v (draft_of (lead e c)) v)

back_sound : (rows : Rows) (handsets : List (List ℕ)) (sessions : List Session) → IsSound rows → CanRestart rows handsets sessions → IsSoundCore (recovered rows handsets sessions)
back_sound rows handsets sessions sound can = recovered_sound rows handsets sessions sound can.numbers can.different can.keys can.each

leads : (e : Episode) (c : Core) (w : World) → IsSoundCore c → HasOffered c → CentreRefines w (draft_of c) w → MayBe e c w → Leads e c w
leads (Whole number event) c w sound k s may =
    let d : Draft = happened event c in
    let x = every_event number event c w sound k may.0 may.1 s in
    let v : World = end w (items (moment_at event c) false x.0) in
    (v, ((x.0, (x.1.0, x.1.1, refl, x.1.2.frames)), stays_sound event c sound may.0, event_offered event c sound may.0, next_refines w d v x.1.2))
leads (Stopped number event handsets sessions) c w sound k s may =
    let d : Draft = happened event c in
    let m : ℕ = moment_at event c in
    let x = every_event number event c w sound k may.1 may.2 s in
    let y = stops number event m w x.0 may.0 x.1.0.0 x.1.0.1 x.1.1 in
    let v : World = end w (items m true y.0) in (
      v,
      (
        (y.0, (y.1.0, y.1.1, refl, ap (λ (z : World). z.bag) y.1.2)),
        back_sound (rows_of d.store) handsets sessions (stays_sound event c sound may.1).rows may.3,
        back_offered (rows_of d.store) handsets sessions,
        subst (λ (z : World). CentreRefines z (draft_of (recovered (rows_of d.store) handsets sessions)) z) (sym y.1.2)
            (reached_back w w.bag d handsets sessions (end w (items m false x.0)) x.1.2),
      ),
    )
leads (Restart handsets sessions) c w sound k s may =
    (w, (refl, back_sound c.rows handsets sessions sound.rows may, back_offered c.rows handsets sessions, reached_back w w.bag (draft_of c) handsets sessions w s))
leads (Others handset m b steps) c w sound k s may =
    (end w (items m b steps), (refl, sound, k, handset_stays handset c w m b steps may.0 s))

-- ---- all of them

pub run_is_steps : RunLaw
run_is_steps [] c w sound k s = (sound, k, s)
run_is_steps (e ∷ es) c w sound k s = λ may.
    let x = leads e c w sound k s may in
    (x.0, (x.1.0, run_is_steps es (lead e c) x.0 x.1.1 x.1.2 x.1.3))

pub first_run_is_steps : FirstRunLaw
first_run_is_steps es setup handsets sessions is can =
    run_is_steps es (started (first_rows setup) handsets sessions) empty (started_sound (first_rows setup) handsets sessions (first_sound setup is) can.numbers can.different can.keys can.each)
    (first_offered setup handsets sessions) (first_refines setup handsets sessions)
