-- A walk may leave out the handsets that it doesn't concern as it begins.
use Rattle.std.proofs.Common.{◌≡◌, ℕ, List, [], ◌∷◌, Bool, true, false, refl, sym, ◌∙◌, ap, inl, inr, ⊎_elim}
use Rattle.std.specs.Prelude.{filter}
use Rattle.std.proofs.lemmas.Bool.{cases_Bool, cond-true, cond-false}
use Rattle.sms_base.specs.Among.{Among}
use Rattle.sms_centre_queue.specs.declared.queues.concern.ConcernedHandset.{ConcernedHandset}
use Rattle.sms_centre_queue.specs.queues.Walks.{AreApart, StepsAlone, walk}

pub walk_found : {D : Type 0} (step : List ℕ → D → D) (concerns : List ℕ → D → Bool) (test : ConcernedHandset → Bool) (ss : List ConcernedHandset) (d : D) → StepsAlone D step concerns → AreApart ss
    → ((s : ConcernedHandset) → Among s ss → test s ≡ concerns s.number d) → walk step ss d ≡ walk step (filter test ss) d
walk_found step concerns test [] d alone apart same = refl
walk_found {D} step concerns test (s ∷ ss) d alone apart same = ⊎_elim
    (λ (t : test s ≡ true).
    walk_found step concerns test ss (step s.number d) alone apart.1
    (λ x m. same x (inr m) ∙ sym (alone.others s.number x.number d (apart.0 x m)))
    ∙ sym (ap (λ (l : List ConcernedHandset). walk step l d) (cond-true (test s) (s ∷ filter test ss) (filter test ss) t)))
    (λ (t : test s ≡ false).
    ap (λ (x : D). walk step ss x) (alone.rests s.number d (sym (same s (inl refl)) ∙ t))
    ∙ walk_found step concerns test ss d alone apart.1 (λ x m. same x (inr m))
    ∙ sym (ap (λ (l : List ConcernedHandset). walk step l d) (cond-false (test s) (s ∷ filter test ss) (filter test ss) t)))
    (cases_Bool (test s))
