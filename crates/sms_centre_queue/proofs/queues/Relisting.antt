-- Keys that are put into the index one after the other, and queues that are copied so.
use Rattle.std.proofs.Common.{◌≡◌, ℕ, List, [], ◌∷◌, Bool, true, false, nat_eq, Option, Some, None, refl, sym, ◌∙◌, ap, subst, ⊎_elim, eqb-true}
use Rattle.std.specs.List.{AllByRecursion, IsDistinct}
use Rattle.std.specs.Map.{keys_of}
use Rattle.std.proofs.lemmas.Bool.{cases_Bool, cond-true, cond-false}
use Rattle.sms_centre_queue.specs.declared.queues.placed_queue.PlacedQueue.{PlacedQueue}
use Rattle.sms_centre_queue.specs.queues.Plan.{placed_all, relisted, relisted_all}
use Rattle.sms_centre_queue.specs.queues.Queues.{under}
use Rattle.sms_centre_queue.specs.queues.Stops.{is_active}

gone : (key : ℕ) (es : List (ℕ × PlacedQueue)) (b : Bool) → AllByRecursion (λ (y : ℕ). nat_eq key y ≡ false) (keys_of es) → relisted_all key es b ≡ b
gone key [] b h = refl
gone key (e ∷ es) b h =
    ap (λ (x : Bool). relisted_all key es x) (cond-false (nat_eq key e.0) (is_active e.1.queue.link) b h.0) ∙ gone key es b h.1

pub relisted_once : (key : ℕ) (es : List (ℕ × PlacedQueue)) (b : Bool) → IsDistinct nat_eq (keys_of es) → relisted_all key es b ≡ relisted (under key es) b
unfolding IsDistinct
relisted_once key [] b d = refl
relisted_once key (e ∷ es) b d = ⊎_elim
    (λ (t : nat_eq key e.0 ≡ true).
    let same : e.0 ≡ key = sym (eqb-true key e.0 t) in
    ap (λ (x : Bool). relisted_all key es x) (cond-true (nat_eq key e.0) (is_active e.1.queue.link) b t)
    ∙ gone key es (is_active e.1.queue.link) (subst (λ (k : ℕ). AllByRecursion (λ (y : ℕ). nat_eq k y ≡ false) (keys_of es)) same d.0)
    ∙ sym (ap (λ (o : Option PlacedQueue). relisted o b) (cond-true (nat_eq key e.0) (Some e.1) (under key es) t)))
    (λ (t : nat_eq key e.0 ≡ false).
    ap (λ (x : Bool). relisted_all key es x) (cond-false (nat_eq key e.0) (is_active e.1.queue.link) b t)
    ∙ relisted_once key es b d.1
    ∙ sym (ap (λ (o : Option PlacedQueue). relisted o b) (cond-false (nat_eq key e.0) (Some e.1) (under key es) t)))
    (cases_Bool (nat_eq key e.0))

-- ---- the queues themselves

passed : (key : ℕ) (es : List (ℕ × PlacedQueue)) (o : Option PlacedQueue) → AllByRecursion (λ (y : ℕ). nat_eq key y ≡ false) (keys_of es) → placed_all key es o ≡ o
passed key [] o h = refl
passed key (e ∷ es) o h =
    ap (λ (x : Option PlacedQueue). placed_all key es x) (cond-false (nat_eq key e.0) (Some e.1) o h.0) ∙ passed key es o h.1

-- into none
pub placed_once : (key : ℕ) (es : List (ℕ × PlacedQueue)) → IsDistinct nat_eq (keys_of es) → placed_all key es None ≡ under key es
unfolding IsDistinct
placed_once key [] d = refl
placed_once key (e ∷ es) d = ⊎_elim
    (λ (t : nat_eq key e.0 ≡ true).
    let same : e.0 ≡ key = sym (eqb-true key e.0 t) in
    ap (λ (x : Option PlacedQueue). placed_all key es x) (cond-true (nat_eq key e.0) (Some e.1) None t)
    ∙ passed key es (Some e.1) (subst (λ (k : ℕ). AllByRecursion (λ (y : ℕ). nat_eq k y ≡ false) (keys_of es)) same d.0)
    ∙ sym (cond-true (nat_eq key e.0) (Some e.1) (under key es) t))
    (λ (t : nat_eq key e.0 ≡ false).
    ap (λ (x : Option PlacedQueue). placed_all key es x) (cond-false (nat_eq key e.0) (Some e.1) None t)
    ∙ placed_once key es d.1
    ∙ sym (cond-false (nat_eq key e.0) (Some e.1) (under key es) t))
    (cases_Bool (nat_eq key e.0))
