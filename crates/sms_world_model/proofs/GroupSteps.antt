-- What becomes of the groups of a key as parts are accepted.
use Rattle.std.proofs.Common.{◌≡◌, ℕ, ◌<◌, List, [], ◌∷◌, refl, sym, ◌∙◌, ap, subst, inl, inr, ⊎_elim, length, arith}
use Rattle.sms_base.specs.Among.{Among}
use Rattle.sms_world_model.specs.Place.{Key}
use Rattle.sms_world_model.specs.World.{Accepted, Joined, World}
use Rattle.sms_world_model.specs.Groups.{Groups, groups, groups_of, IsEndedAt}
use Rattle.sms_world_model.specs.WorldStep.{HasNotJoined}
use Rattle.sms_world_model.specs.Grouping.{OthersStay, IsPassed, JoinsGroup, Ends, NextIsNew}
use Rattle.sms_world_model.proofs.Rounds.{passed, ends, goes_in}
use Rattle.sms_world_model.proofs.Places.{IsPlaced, of_key_in, of_key_out}

pub others_stay : OthersStay
others_stay h k p ac e = ap (λ ps. groups k.total ps) (of_key_out h k p ac e)

pub is_passed : IsPassed
is_passed h k p ac e there = ap (λ ps. groups k.total ps) (of_key_in h k p ac e) ∙ passed k.total p (groups_of h k ac) there

pub goes : JoinsGroup
goes h k p ac e new partial = ap (λ ps. groups k.total ps) (of_key_in h k p ac e) ∙ goes_in k.total p (groups_of h k ac) new partial

pub group_ends : Ends
group_ends h k p ac e new full =
    let g : Groups = groups_of h k ac in
    let is = ap (λ ps. groups k.total ps) (of_key_in h k p ac e) ∙ ends k.total p g new full in
    (is, subst (λ (x : Groups). IsEndedAt (length g.ended) (p ∷ g.present) x.ended) (sym is) (inl (refl, refl)))

-- a place is below the number of those that ended
below : (place : ℕ) (group : List Accepted) (es : List (List Accepted)) → IsEndedAt place group es → place < length es
below place group [] i = absurd i
below place group (e ∷ es) i =
    ⊎_elim
    (λ (c : (place ≡ length es) × (group ≡ e)). let q = c.0 in omega (arith, q))
    (λ (j : IsEndedAt place group es). let l = below place group es j in omega (arith, l))
    i

none_at : (js : List Joined) (h : List ℕ) (k : Key) (place : ℕ) → ((j : Joined) → Among j js → j.handset ≡ h → j.key ≡ k → j.place < place) → HasNotJoined js h k place
none_at [] h k place all = tt
none_at (j ∷ js) h k place all =
    ((λ same. let l = all j (inl refl) same.0 same.1 in let e = same.2 in absurd (omega (arith, l, e))), none_at js h k place (λ x i. all x (inr i)))

pub next_is_new : (w : World) → IsPlaced w → NextIsNew w
next_is_new w h a k =
    none_at w.joined a k (length (groups_of a k w.accepted).ended)
    (λ j i p q. below j.place j.group (groups_of a k w.accepted).ended
    (subst (λ (y : List ℕ × Key). IsEndedAt j.place j.group (groups_of y.0 y.1 w.accepted).ended) (λ t. (p t, q t)) (h.ended j i)))
