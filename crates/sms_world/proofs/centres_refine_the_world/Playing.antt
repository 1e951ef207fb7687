-- What an event does itself, then what it tells, then the next offers: an event of a script.
use Rattle.std.proofs.Common.{◌≡◌, ℕ, List, [], ◌∷◌, ◌++◌, false, refl, sym, ◌∙◌, subst, ⊎_elim}
use Rattle.sms_centre_spec.proofs.SoundStores.{SoundStore}
use Rattle.sms_centre_spec.specs.CentreEvent.{follow}
use Rattle.sms_centre_spec.specs.Draft.{Draft, Store, answer_with, in_store}
use Rattle.sms_centre_spec.specs.declared.answer.CentreAnswer.{CentreAnswer}
use Rattle.sms_world.proofs.frames_pass_between_sides.RunsOn.{end_both, run_both}
use Rattle.sms_world_model.specs.References.{Ticket}
use Rattle.sms_world_model.specs.WorldStep.{Run, end, Receipt, Status, Step}
use Rattle.sms_world_model.specs.ScriptRun.{AllMayFollow, Event, Follows, IsInOrder, IsOwn, MayFollow, items}
use Rattle.sms_world_model.specs.Sides.{AllOfCentre, IsOfCentre}
use Rattle.sms_world_model.specs.Submission.{Submission}
use Rattle.sms_base.specs.declared.final_state.FinalState.{FinalState}
use Rattle.sms_world_model.specs.World.{Sent, World}
use Rattle.sms_world.specs.centres_refine_the_world.CentreLaws.{AllOffer}
use Rattle.sms_world.specs.centres_refine_the_world.CentreRefinement.{CentreRefines, StoreRefines}
use Rattle.sms_world.specs.centres_refine_the_world.RefinesLinks.{RefinesLinks}
use Rattle.sms_world.proofs.centres_refine_the_world.Ending.{AllReportEnds}
use Rattle.sms_world.proofs.centres_refine_the_world.Offers.{follow_law}

module _ (event : Event) (may : (x : Step) → Follows x → MayFollow event x) where
  pub offers_follow : (xs : List Step) → AllOffer xs → AllMayFollow event xs × AllOfCentre xs
  offers_follow [] k = (tt, tt)
  offers_follow (x ∷ xs) (k, ks) =
      let rest = offers_follow xs ks in
      ((may x (subst Follows (sym k.2) tt), rest.0), (subst IsOfCentre (sym k.2) tt, rest.1))

  pub agrees_follow : (xs : List Step) → AllReportEnds xs → AllMayFollow event xs × AllOfCentre xs
  agrees_follow [] k = (tt, tt)
  agrees_follow (x ∷ xs) (k, ks) =
      let rest = agrees_follow xs ks in
      ⊎_elim
      (λ (r : (u : Submission) × (f : FinalState) × (x ≡ Receipt u f)). ((may x (subst Follows (sym r.2) tt), rest.0), (subst IsOfCentre (sym r.2) tt, rest.1)))
      (λ (r : (u : Submission) × (f : FinalState) × (t : Ticket) × (x ≡ Status u f t)). ((may x (subst Follows (sym r.3) tt), rest.0), (subst IsOfCentre (sym r.3) tt, rest.1)))
      k

  pub follow_both : (xs ys : List Step) → AllMayFollow event xs → AllMayFollow event ys → AllMayFollow event (xs ++ ys)
  follow_both [] ys a b = b
  follow_both (x ∷ xs) ys a b = (a.0, follow_both xs ys a.1 b)

pub centre_both : (xs ys : List Step) → AllOfCentre xs → AllOfCentre ys → AllOfCentre (xs ++ ys)
centre_both [] ys a b = b
centre_both (x ∷ xs) ys a b = (a.0, centre_both xs ys a.1 b)

-- the event's own steps, and what follows them
pub record Acts (event : Event) (m : ℕ) (w : World) (d : Draft) : Type 0 where
  pub own : List Step
  pub follows : List Step
  pub is_own : IsOwn w event own
  pub may_follow : AllMayFollow event follows
  pub own_centre : AllOfCentre own
  pub follows_centre : AllOfCentre follows
  pub own_runs : Run w (items m false own)
  pub runs : Run (end w (items m false own)) (items m false follows)
  pub refines : CentreRefines w d (end (end w (items m false own)) (items m false follows))

-- the draft's store is one that the world comes to while nothing is sent
pub store_is_reached : (b : World) (e : Store) (d : Draft) (w v : World) → CentreRefines b d w → StoreRefines e v → v.bag ≡ w.bag → CentreRefines b (in_store e d) v
store_is_reached b e d w v s rows bag = record {
  frames = bag ∙ s.frames;
  whole = s.whole;
  links = subst (λ (x : List Sent). RefinesLinks x d.links.all) (sym bag) s.links;
  rows = rows;
}

-- an answer is not seen
pub answer_refines : (b : World) (a : CentreAnswer) (d : Draft) (w : World) → CentreRefines b d w → CentreRefines b (answer_with a d) w
answer_refines b a d w s = record { frames = s.frames; whole = s.whole; links = s.links; rows = s.rows }

-- receipts and offers follow
pub acts_lead : (event : Event) (may : (x : Step) → Follows x → MayFollow event x) (m : ℕ) (w : World) (d : Draft) → Acts event m w d → SoundStore d.store
    → (steps : List Step) × (IsInOrder w event steps × AllOfCentre steps × Run w (items m false steps) × CentreRefines w (follow d) (end w (items m false steps)))
acts_lead event may m w d a sound =
    let v : World = end w (items m false a.own) in
    let o = follow_law m w d (end v (items m false a.follows)) sound a.refines in
    let offers = offers_follow event may o.0 o.1.0 in
    let after : List Step = a.follows ++ o.0 in
    let runs : Run v (items m false after) = run_both m v a.follows o.0 a.runs o.1.1 in
    let refines : CentreRefines w (follow d) (end v (items m false after)) = subst (λ (z : World). CentreRefines w (follow d) z) (sym (end_both m v a.follows o.0)) o.1.2 in (
      a.own ++ after,
      (
        ([], a.own, after, (tt, a.is_own, follow_both event may a.follows o.0 a.may_follow offers.0, refl)),
        centre_both a.own after a.own_centre (centre_both a.follows o.0 a.follows_centre offers.1),
        run_both m w a.own after a.own_runs runs,
        subst (λ (z : World). CentreRefines w (follow d) z) (sym (end_both m w a.own after)) refines,
      ),
    )
