-- Stages one after another.
use Rattle.std.proofs.Common.{◌≡◌, ℕ, List, [], ◌∷◌, ◌++◌, false, refl, sym, subst, inl, inr}
use Rattle.std.proofs.lemmas.List.{append_assoc}
use Rattle.sms_base.specs.Among.{Among}
use Rattle.sms_centre_spec.proofs.SoundStores.{SoundStore}
use Rattle.sms_centre_spec.specs.CentreEvent.{follow}
use Rattle.sms_centre_spec.specs.Draft.{Draft, Store, in_store}
use Rattle.sms_world.proofs.frames_pass_between_sides.RunsOn.{end_both, run_both}
use Rattle.sms_world_model.specs.WorldStep.{Run, end, Can, Step}
use Rattle.sms_world_model.specs.ScriptRun.{AllMayFollow, Handed, IsInOrder, Reads, items}
use Rattle.sms_world_model.specs.Sides.{AllOfCentre, IsOfCentre}
use Rattle.sms_world_model.specs.World.{Carried, Frame, World}
use Rattle.sms_world.specs.centres_refine_the_world.CentreRefinement.{CentreRefines}
use Rattle.sms_world.proofs.centres_refine_the_world.Ending.{AllReportEnds}
use Rattle.sms_world.proofs.centres_refine_the_world.Offers.{follow_law}
use Rattle.sms_world.proofs.centres_refine_the_world.Playing.{centre_both, follow_both, offers_follow, store_is_reached, agrees_follow}
use Rattle.sms_world.specs.centre_runs_are_steps.Stages.{AnswersInEvent, AreOfFrame, Begins, Reaches, Settles}

-- no step at all
pub none_of_frame : (number : ℕ) (b : World) → AreOfFrame number b [] []
none_of_frame number b = record { is_own = inl refl; own_centre = tt; may_follow = tt; follows_centre = tt }

pub still : (number m : ℕ) (b : World) (Seen : World → Type 0) (w : World) → Seen w → Reaches number m b Seen w
still number m b Seen w s = ([], [], (none_of_frame number b, tt, s))

-- one step that may follow
pub follows_one : (number m : ℕ) (b : World) (Seen : World → Type 0) (w : World) (x : Step) → AllMayFollow (Handed number) (x ∷ []) → AllOfCentre (x ∷ []) → Can w m x → Seen (end w (items m false (x ∷ [])))
    → Reaches number m b Seen w
follows_one number m b Seen w x may centre can s = ([], x ∷ [], (record { is_own = inl refl; own_centre = tt; may_follow = may; follows_centre = centre }, (can, tt), s))

-- the frame of that number stood in the bag
abbrev pub WasHanded : ℕ → World → Frame → Type 0
WasHanded number b u = Among (Carried u) b.bag × (u.number ≡ number)

-- one step reads it, and what is told follows
pub reads_then : (number m : ℕ) (b : World) (Seen : World → Type 0) (w : World) (u : Frame) (x : Step) (told : List Step) → WasHanded number b u → Reads u x → IsOfCentre x → AllReportEnds told
    → Run w (items m false (x ∷ told)) → Seen (end w (items m false (x ∷ told))) → Reaches number m b Seen w
reads_then number m b Seen w u x told was reads centre tells run s =
    let k = agrees_follow (Handed number) (λ y z. z) told tells in
    (x ∷ [], told, (record { is_own = inr (u, x, (was.0, was.1, reads, refl)); own_centre = (centre, tt); may_follow = k.0; follows_centre = k.1 }, run, s))

-- the rows come there while nothing is sent
pub settles_store : (number m : ℕ) (b : World) (e : Store) (d : Draft) (w : World) → CentreRefines b d w → Settles number m b e w → AnswersInEvent number m b (in_store e d) w
settles_store number m b e d w s (own, follows, (are, run, (refines, bag))) =
    (own, follows, (are, run, store_is_reached b e d w (end w (items m false (own ++ follows))) s refines bag))

-- ---- the whole event

-- control frames alone
pub begins_still : (number m : ℕ) (d : Draft) (w : World) → CentreRefines w d w → Begins number m d w
begins_still number m d w s = ([], (tt, tt, tt, still number m w (λ v. CentreRefines w d v) w s))

-- the next offers follow
pub frame_leads : (number m : ℕ) (d : Draft) (w : World) → Begins number m d w → SoundStore d.store
    → (steps : List Step) × (IsInOrder w (Handed number) steps × AllOfCentre steps × Run w (items m false steps) × CentreRefines w (follow d) (end w (items m false steps)))
frame_leads number m d w (control, (is_control, control_centre, control_runs, (own, follows, (are, run, refines)))) sound =
    let v : World = end w (items m false control) in
    let heads : List Step = own ++ follows in
    let x : World = end v (items m false heads) in
    let o = follow_law m w d x sound refines in
    let offers = offers_follow (Handed number) (λ y z. z) o.0 o.1.0 in
    let after : List Step = own ++ (follows ++ o.0) in
    let same : heads ++ o.0 ≡ after = append_assoc own follows o.0 in
    let runs : Run v (items m false after) = subst (λ (z : List Step). Run v (items m false z)) same (run_both m v heads o.0 run o.1.1) in
    let seen : CentreRefines w (follow d) (end v (items m false after)) =
    subst (λ (z : List Step). CentreRefines w (follow d) (end v (items m false z))) same (subst (λ (z : World). CentreRefines w (follow d) z) (sym (end_both m v heads o.0)) o.1.2) in (
      control ++ after,
      (
        (control, own, follows ++ o.0, (is_control, are.is_own, follow_both (Handed number) (λ y z. z) follows o.0 are.may_follow offers.0, refl)),
        centre_both control after control_centre (centre_both own (follows ++ o.0) are.own_centre (centre_both follows o.0 are.follows_centre offers.1)),
        run_both m w control after control_runs runs,
        subst (λ (z : World). CentreRefines w (follow d) z) (sym (end_both m w control after)) seen,
      ),
    )
