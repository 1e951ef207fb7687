-- One key comes into the index or goes, and one queue comes under its key.
use Rattle.std.proofs.Common.{◌≡◌, ℕ, List, [], ◌∷◌, length, Bool, true, false, nat_eq, Option, Some, None, refl, sym, ◌∙◌, ap, subst, cond, is_some}
use Rattle.std.specs.Map.{lookup}
use Rattle.sms_base.proofs.Lists.{no_items}
use Rattle.sms_base.proofs.Bools.{swapped}
use Rattle.sms_centre_queue.specs.declared.queues.placed_queue.PlacedQueue.{PlacedQueue}
use Rattle.sms_centre_queue.specs.declared.queues.concern.ConcernedHandset.{ConcernedHandset}
use Rattle.sms_centre_queue.specs.declared.queues.concern.Concern.TheVariants.{Offer}
use Rattle.sms_centre_queue.specs.queues.Queues.{DeliveryQueuesDraftOf, is_listed, under}
use Rattle.sms_centre_queue.specs.queues.Stops.{rested_at, scanned}

over_cond : (b : Bool) (x y : Option (Unit {0})) → is_some (cond b x y) ≡ cond b (is_some x) (is_some y)
over_cond true x y = refl
over_cond false x y = refl

-- what stands under a key after one entry was put or taken out
abbrev pub Written : {V : Type 0} → ℕ → Option V → List (ℕ × V) → List (ℕ × V) → Type 0
Written key w old new = (q : ℕ) → lookup (nat_eq q) new ≡ cond (nat_eq key q) w (lookup (nat_eq q) old)

pub listed_as : (key k : ℕ) (w : Option (Unit {0})) (active : Bool) (old new : List (ℕ × Unit {0})) → is_some w ≡ active → Written key w old new → is_listed k new ≡ cond (nat_eq k key) active (is_listed k old)
listed_as key k w active old new is written =
    ap is_some (written k) ∙ over_cond (nat_eq key k) w (lookup (nat_eq k) old)
    ∙ ap (λ (b : Bool). cond b (is_some w) (is_listed k old)) (swapped key k) ∙ ap (λ (b : Bool). cond (nat_eq k key) b (is_listed k old)) is

pub placed_as : (key k : ℕ) (placed : PlacedQueue) (old new : List (ℕ × PlacedQueue)) → Written key (Some placed) old new → under k new ≡ cond (nat_eq k key) (Some placed) (under k old)
placed_as key k placed old new written = written k ∙ ap (λ (b : Bool). cond b (Some placed) (under k old)) (swapped key k)

pub nothing_at : (now : ℕ) (stops : List ConcernedHandset) (p : DeliveryQueuesDraftOf) → stops ≡ scanned (Offer now) p → length stops ≡ 0 → Some now ≡ rested_at now (scanned (Offer now) p)
nothing_at now stops p is none = ap (λ (ss : List ConcernedHandset). rested_at now ss) (sym (no_items stops none) ∙ is)

some_rows : (now : ℕ) (stops : List ConcernedHandset) → ¬ (length stops ≡ 0) → None ≡ rested_at now stops
some_rows now [] some = absurd (some refl)
some_rows now (s ∷ ss) some = refl

pub something_at : (now : ℕ) (stops : List ConcernedHandset) (p : DeliveryQueuesDraftOf) → stops ≡ scanned (Offer now) p → ¬ (length stops ≡ 0) → None ≡ rested_at now (scanned (Offer now) p)
something_at now stops p is some = some_rows now stops some ∙ ap (λ (ss : List ConcernedHandset). rested_at now ss) is

rests_in : (now moment : ℕ) (stops : List ConcernedHandset) (p : DeliveryQueuesDraftOf) → scanned (Offer now) p ≡ stops → rested_at now stops ≡ Some moment → scanned (Offer moment) p ≡ []
rests_in now moment [] p is same =
    let e : now ≡ moment = cc in
    subst (λ (n : ℕ). scanned (Offer n) p ≡ []) e is
rests_in now moment (s ∷ ss) p is same = absurd cc

pub rests : (now moment : ℕ) (rested : Option ℕ) (p : DeliveryQueuesDraftOf) → rested ≡ rested_at now (scanned (Offer now) p) → rested ≡ Some moment → scanned (Offer moment) p ≡ []
rests now moment rested p is same = rests_in now moment (scanned (Offer now) p) p refl (sym is ∙ same)
