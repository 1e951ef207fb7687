-- An event of the centre, in a course: it is steps of the world, and the course after it sees where they lead.
use Rattle.std.proofs.Common.{◌≡◌, ℕ, zero, suc, ◌+◌, List, [], ◌∷◌, ◌++◌, Bool, true, false, length, refl, sym, ◌∙◌, ap, subst, inl, inr, ⊎_elim, Option, Some, None}
use Rattle.sms_base.specs.Among.{Among}
use Rattle.sms_intake.specs.declared.submission.CentreAccount.{CentreAccount}
use Rattle.sms_centre_rows.specs.declared.reports.delivery.Delivery.{Delivery}
use Rattle.sms_centre_rows.specs.waiting.SoundAllocations.{IsNumber}
use Rattle.sms_centre_spec.proofs.EventLaws.{stays_sound}
use Rattle.sms_centre_spec.specs.CentreEvent.{happened, recovered}
use Rattle.sms_centre_spec.specs.Draft.{Core, Draft, core_of, draft_of, rows_of}
use Rattle.sms_centre_spec.specs.SoundCore.{AreDifferent, IsEvent}
use Rattle.sms_centre_spec.specs.declared.answer.CentreAnswer.{CentreAnswer}
use Rattle.sms_centre_spec.specs.declared.event.CentreEvent.{CentreEvent}
use Rattle.sms_centre_spec.specs.declared.event.CentreEvent.TheVariants.{DeliverAnswered}
use Rattle.sms_centre_spec.specs.declared.rows.Rows.{Rows}
use Rattle.sms_world.proofs.centre_runs_are_steps.AfterOffers.{event_offered}
use Rattle.sms_play.specs.CentreSide.{accepted_after, answered_as, centre_meets, committed, done, given_by, with_answer, whole}
use Rattle.sms_play.specs.PlayState.{PlayState, Party, numbers_of}
use Rattle.sms_play.specs.PlayedEvent.{centre_restarted, sessions_from}
use Rattle.sms_world_model.specs.WorldStep.{Run, end, Step}
use Rattle.sms_world_model.specs.ScriptRun.{Event, IsPlayed, items}
use Rattle.sms_world_model.specs.Sides.{AllOfCentre}
use Rattle.sms_world_model.specs.World.{Sent, World}
use Rattle.sms_world.proofs.centres_refine_the_world.Staying.{next_refines}
use Rattle.sms_world.specs.centres_refine_the_world.CentreRefinement.{CentreRefines}
use Rattle.sms_world.specs.centres_refine_the_world.FramesOut.{stacked_down}
use Rattle.sms_world.proofs.centre_runs_are_steps.Runs.{run_is_steps}
use Rattle.sms_world.proofs.centre_runs_are_steps.EveryEvent.{every_event}
use Rattle.sms_world.specs.centre_runs_are_steps.Run.{CanRestart, IsScripted, Restart, Stopped}
use Rattle.sms_world.specs.centre_runs_are_steps.RunEvents.{AreOfEvent, MayArrive, moment_at}
use Rattle.sms_world.proofs.handset_runs_are_steps.Others.{centre_event}
use Rattle.sms_world.specs.headline.SeenWorld.{JoinedText, rows_joined, AgreesUp}
use Rattle.sms_world.specs.scripts_are_runs.PlayRefinement.{PlayRefines, OwnAllocations, PartyRefines}
use Rattle.sms_world.proofs.entries_keep_references.Elsewhere.{centre_elsewhere}
use Rattle.sms_world.proofs.scripts_are_runs.UpGrown.{centre_up}
use Rattle.sms_world.proofs.scripts_are_runs.UpReported.{own_still, up_still}
use Rattle.sms_world.proofs.scripts_are_runs.Agreeing.{event_reported, goes_on}
use Rattle.sms_world.proofs.scripts_are_runs.Bags.{down_rows, down_stacked}
use Rattle.sms_world.proofs.scripts_are_runs.HandsetMeets.{EventIsSteps, answer_refines}
use Rattle.sms_world.proofs.scripts_are_runs.EventMoments.{event_moment}
use Rattle.sms_world.proofs.scripts_are_runs.OneSubmission.{event_once}
use Rattle.sms_player.proofs.centre.NewSessions.{none_waits, sessions_rise}

-- ---- with whom it comes back

numbers_are : (ps : List Party) → ((p : Party) → Among p ps → IsNumber p.number) → (n : List ℕ) → Among n (numbers_of ps) → IsNumber n
numbers_are [] all n i = absurd i
numbers_are (p ∷ ps) all n i =
    ⊎_elim (λ (e : n ≡ p.number). subst (λ (z : List ℕ). IsNumber z) (sym e) (all p (inl refl))) (λ (j : Among n (numbers_of ps)). numbers_are ps (λ q k. all q (inr k)) n j) i

pub can_come : (rows : Rows) (ps : List Party) → ((p : Party) → Among p ps → IsNumber p.number) → AreDifferent (numbers_of ps) → (accounts : List CentreAccount) → CanRestart rows (numbers_of ps) (sessions_from 0 accounts)
can_come rows ps all apart accounts = record {
  numbers = numbers_are ps all;
  different = apart;
  keys = sessions_rise 0 accounts;
  each = λ x i. record { unanswered = λ id j. absurd (subst (λ (ids : List ℕ). Among id ids) (none_waits x 0 accounts i) j) };
}

reached_back : (c : PlayState) (w : World) → PlayRefines c w → (rows : Rows) (accounts : List CentreAccount) → CanRestart rows (numbers_of c.parties) (sessions_from 0 accounts)
reached_back c w s rows accounts = can_come rows c.parties (λ p i. (s.parties p i).number) s.apart accounts

-- ---- the centre's steps, in a course

module _ (c : PlayState) (w : World) (s : PlayRefines c w) where
  parties_still : (m : ℕ) (b : Bool) (steps : List Step) → AllOfCentre steps → (p : Party) → Among p c.parties → PartyRefines p (end w (items m b steps))
  parties_still m b steps own p i =
      let k = s.parties p i in
      let x = centre_event p.number p.core w m b steps own k.refines in
      record {
        number = k.number;
        sound = k.sound;
        refines = x.0;
        accepted = x.1.accepted ∙ k.accepted;
        joined = k.joined ∙ ap (λ (js : List JoinedText). rows_joined p.number js) (sym x.1.joined);
      }

  -- no handset gave anything
  up_reported : (d : Draft) (m : ℕ) (b : Bool) (steps : List Step) → AllOfCentre steps → (h : List ℕ) → AgreesUp h (c.given ++ given_by d) (end w (items m b steps)).up
  up_reported d m b steps own h = up_still h c.given (given_by d) w.up [] (end w (items m b steps)).up (centre_up w m b steps own) (centre_elsewhere h d) (λ y i e. i) (s.up h)

  own_reported : (d : Draft) (m : ℕ) (b : Bool) (steps : List Step) → AllOfCentre steps → (p : Party) → Among p c.parties → OwnAllocations p (c.given ++ given_by d) (end w (items m b steps)).up
  own_reported d m b steps own p i = own_still p c.given (given_by d) w.up [] (end w (items m b steps)).up (centre_up w m b steps own) (centre_elsewhere p.number d) (s.own p i)

  -- one event of it
  abbrev Steps : ℕ → CentreEvent → Type 0
  Steps number event =
      (steps : List Step)
      × (AreOfEvent number event w steps × Run w (items (moment_at event c.centre) false steps) × PlayRefines (done (happened event c.centre) c) (end w (items (moment_at event c.centre) false steps)))

  done_refines : (number : ℕ) (event : CentreEvent) → IsEvent event → MayArrive number event w → Steps number event
  done_refines number event is may =
      let d : Draft = happened event c.centre in
      let m : ℕ = moment_at event c.centre in
      let x = every_event number event c.centre w s.sound s.offered is may s.centre in
      let v : World = end w (items (moment_at event c.centre) false x.0) in
      let k : CentreRefines w d v = x.1.2 in (
        x.0,
        (
          x.1.0.0,
          x.1.1,
          record {
            sound = stays_sound event c.centre s.sound is;
            offered = event_offered event c.centre s.sound is;
            centre = next_refines w d v k;
            parties = parties_still (moment_at event c.centre) false x.0 x.1.0.1;
            apart = s.apart;
            bag = k.frames ∙ ap (λ (bag : List Sent). stacked_down d.links.frames bag) s.bag ∙ sym (down_stacked d.links.frames c.bag);
            sent = down_rows d.links.frames c.bag k.whole s.sent;
            reached = goes_on w m false x.0 s.reached x.1.1;
            down = event_reported event c.centre w m false x.0 c.given s.sound is (event_moment event c.centre) (event_once number event w x.0 x.1.0.0) s.reached x.1.1 s.centre.rows.holders k.rows.holders s.down;
            up = up_reported d (moment_at event c.centre) false x.0 x.1.0.1;
            own = own_reported d (moment_at event c.centre) false x.0 x.1.0.1;
          },
        ),
      )

  -- the answer to a receipt is no step
  answered_refines : (session id : ℕ) → PlayRefines (done (happened (DeliverAnswered session id true) c.centre) c) w
  answered_refines session id =
      let x = done_refines 0 (DeliverAnswered session id true) tt tt in
      subst (λ (ss : List Step). PlayRefines (done (happened (DeliverAnswered session id true) c.centre) c) (end w (items c.centre.moment false ss))) x.1.0 x.1.2

  -- ---- a restart

  restart_refines : PlayRefines (centre_restarted c) w
  restart_refines =
      let accounts : List CentreAccount = c.centre.rows.setup.accounts in
      let x = run_is_steps (Restart (numbers_of c.parties) (sessions_from 0 accounts) ∷ []) c.centre w s.sound s.offered s.centre (reached_back c w s c.centre.rows accounts) in
      record {
        sound = x.1.1.0;
        offered = x.1.1.1;
        centre = subst (λ (v : World). CentreRefines v (draft_of (recovered c.centre.rows (numbers_of c.parties) (sessions_from 0 accounts))) v) x.1.0 x.1.1.2;
        parties = s.parties;
        apart = s.apart;
        bag = s.bag;
        sent = s.sent;
        reached = s.reached;
        down = s.down;
        up = s.up;
        own = s.own;
      }

  -- ---- stopped behind the store call

  stop_refines : (number : ℕ) (event : CentreEvent) (played : Event) → IsScripted event → IsEvent event → MayArrive number event w
      → ((steps : List Step) → AreOfEvent number event w steps → IsPlayed w played steps)
      → EventIsSteps played (moment_at event c.centre) true w (centre_restarted (committed (happened event c.centre) c))
  stop_refines number event played scripted is may plays =
      let d : Draft = happened event c.centre in
      let m : ℕ = moment_at event c.centre in
      let accounts : List CentreAccount = (rows_of d.store).setup.accounts in
      let left : Core = recovered (rows_of d.store) (numbers_of c.parties) (sessions_from 0 accounts) in
      let x = run_is_steps (Stopped number event (numbers_of c.parties) (sessions_from 0 accounts) ∷ []) c.centre w s.sound s.offered s.centre
      (scripted, is, may, reached_back c w s (rows_of d.store) accounts) in
      let steps : List Step = x.1.0.0 in
      let v : World = end w (items m true steps) in
      let same : x.0 ≡ v = x.1.0.1.2 in
      let there : CentreRefines v (draft_of left) v = subst (λ (u : World). CentreRefines u (draft_of left) u) same x.1.1.2 in (
        steps,
        (
          plays steps x.1.0.1.0.0,
          x.1.0.1.1,
          record {
            sound = x.1.1.0;
            offered = x.1.1.1;
            centre = there;
            parties = parties_still m true steps x.1.0.1.0.1;
            apart = s.apart;
            bag = subst (λ (u : World). u.bag ≡ w.bag) same x.1.0.1.3 ∙ s.bag;
            sent = s.sent;
            reached = goes_on w m true steps s.reached x.1.0.1.1;
            down = event_reported event c.centre w m true steps c.given s.sound is (event_moment event c.centre) (event_once number event w steps x.1.0.1.0.0) s.reached x.1.0.1.1 s.centre.rows.holders there.rows.holders s.down;
            up = up_reported d m true steps x.1.0.1.0.1;
            own = own_reported d m true steps x.1.0.1.0.1;
          },
        ),
      )

-- ---- whole: each receipt that goes out is answered

all_answered : (d : Draft) (most : ℕ) (waiting : List Delivery) (c : PlayState) (w : World) → PlayRefines c w → PlayRefines (accepted_after d most waiting c) w
all_answered d zero waiting c w s = s
all_answered d (suc most) [] c w s = s
all_answered d (suc most) (x ∷ waiting) c w s =
    let e : Draft = happened (DeliverAnswered x.session x.id true) c.centre in
    all_answered e most (waiting ++ e.bindings.deliveries) (done e c) w (answered_refines c w s x.session x.id)

reported_refines : (n : ℕ) (o : Option CentreAnswer) (c : PlayState) (w : World) → PlayRefines c w → PlayRefines (with_answer n o c) w
reported_refines n None c w s = s
reported_refines n (Some a) c w s = answer_refines n (answered_as a) c w s

pub centre_goes : (c : PlayState) (w : World) → PlayRefines c w → (n number : ℕ) (event : CentreEvent) (played : Event) → IsEvent event → MayArrive number event w
    → ((steps : List Step) → AreOfEvent number event w steps → IsPlayed w played steps) → EventIsSteps played (moment_at event c.centre) false w (centre_meets n event c)
centre_goes c w s n number event played is may plays =
    let d : Draft = happened event c.centre in
    let x = done_refines c w s number event is may in
    let v : World = end w (items (moment_at event c.centre) false x.0) in
    (x.0, (plays x.0 x.1.0, x.1.1, reported_refines n d.answer (whole d c) v (all_answered d (length (core_of d).rows.reports) d.bindings.deliveries (done d c) v x.1.2)))

pub centre_stops : (c : PlayState) (w : World) → PlayRefines c w → (number : ℕ) (event : CentreEvent) (played : Event) → IsScripted event → IsEvent event → MayArrive number event w
    → ((steps : List Step) → AreOfEvent number event w steps → IsPlayed w played steps)
    → EventIsSteps played (moment_at event c.centre) true w (centre_restarted (committed (happened event c.centre) c))
centre_stops c w s number event played scripted is may plays = stop_refines c w s number event played scripted is may plays

pub centre_restarts : (c : PlayState) (w : World) → PlayRefines c w → PlayRefines (centre_restarted c) w
centre_restarts c w s = restart_refines c w s
