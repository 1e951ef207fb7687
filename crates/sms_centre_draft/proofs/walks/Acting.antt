-- A walk may leave out the handsets that it doesn't concern as it begins, and do at the others what it does where it concerns one.
use Rattle.std.proofs.Common.{◌≡◌, ℕ, List, [], ◌∷◌, Bool, true, false, refl, sym, ◌∙◌, ap, inl, inr, ⊎_elim}
use Rattle.std.specs.Prelude.{filter, ◌++◌}
use Rattle.std.proofs.lemmas.Bool.{cases_Bool, cond-true, cond-false}
use Rattle.sms_base.specs.Among.{Among}
use Rattle.sms_centre_queue.specs.declared.queues.concern.ConcernedHandset.{ConcernedHandset}
use Rattle.sms_centre_queue.specs.queues.Walks.{AreApart, walk}

pub record ActsAlone (D : Type 0) (step act : List ℕ → D → D) (concerns : List ℕ → D → Bool) : Type 0 where
  pub rests : (number : List ℕ) (d : D) → concerns number d ≡ false → step number d ≡ d
  pub acts : (number : List ℕ) (d : D) → concerns number d ≡ true → step number d ≡ act number d
  pub others : (number other : List ℕ) (d : D) → ¬ (number ≡ other) → concerns other (step number d) ≡ concerns other d

pub walk_acting : {D : Type 0} (step act : List ℕ → D → D) (concerns : List ℕ → D → Bool) (test : ConcernedHandset → Bool) (ss : List ConcernedHandset) (d : D) → ActsAlone D step act concerns → AreApart ss
    → ((s : ConcernedHandset) → Among s ss → test s ≡ concerns s.number d) → walk step ss d ≡ walk act (filter test ss) d
walk_acting step act concerns test [] d alone apart same = refl
walk_acting {D} step act concerns test (s ∷ ss) d alone apart same = ⊎_elim
    (λ (t : test s ≡ true).
    walk_acting step act concerns test ss (step s.number d) alone apart.1
    (λ x m. same x (inr m) ∙ sym (alone.others s.number x.number d (apart.0 x m)))
    ∙ ap (λ (x : D). walk act (filter test ss) x) (alone.acts s.number d (sym (same s (inl refl)) ∙ t))
    ∙ sym (ap (λ (l : List ConcernedHandset). walk act l d) (cond-true (test s) (s ∷ filter test ss) (filter test ss) t)))
    (λ (t : test s ≡ false).
    ap (λ (x : D). walk step ss x) (alone.rests s.number d (sym (same s (inl refl)) ∙ t))
    ∙ walk_acting step act concerns test ss d alone apart.1 (λ x m. same x (inr m))
    ∙ sym (ap (λ (l : List ConcernedHandset). walk act l d) (cond-false (test s) (s ∷ filter test ss) (filter test ss) t)))
    (cases_Bool (test s))

-- ---- walks step by step

pub walk_push : {D : Type 0} (step : List ℕ → D → D) (ss : List ConcernedHandset) (s : ConcernedHandset) (d : D) → walk step (ss ++ s ∷ []) d ≡ step s.number (walk step ss d)
walk_push step [] s d = refl
walk_push step (x ∷ xs) s d = walk_push step xs s (step x.number d)

pub walk_keeps : {D : Type 0} (P : D → Type 0) (step : List ℕ → D → D) (ss : List ConcernedHandset) (d : D) → ((number : List ℕ) (e : D) → P e → P (step number e)) → P d → P (walk step ss d)
walk_keeps P step [] d keeps k = k
walk_keeps P step (s ∷ ss) d keeps k = walk_keeps P step ss (step s.number d) keeps (keeps s.number d k)
