-- What was joined stands at its place among the groups that ended; while no DELIVER is accepted twice, groups at different
-- places have no part in common.
use Rattle.std.proofs.Common.{◌≡◌, ℕ, List, [], ◌∷◌, true, false, refl, sym, ◌∙◌, subst, inl, inr, ⊎_elim, Some, length}
use Rattle.std.proofs.lemmas.Bool.{cases_Bool, cond-true, cond-false}
use Rattle.sms_base.specs.Among.{Among}
use Rattle.sms_world_model.specs.Place.{Key}
use Rattle.sms_world_model.specs.World.{Accepted, Joined, World, pair_of, empty}
use Rattle.sms_world_model.specs.Groups.{is_for, of_key, Groups, grouped, groups, groups_of, IsEndedAt, joined_content}
use Rattle.sms_world_model.specs.WorldStep.{HasNotJoined, Step, Take, Join, Can, after, Item, after_item, Run, end}
use Rattle.sms_world_model.specs.Agreement.{JoinedEnded, RoundsOnce}
use Rattle.sms_world_model.proofs.Faithful.{DeliversOnce, IsFaithful}
use Rattle.sms_world_model.proofs.Keys.{deliver_for}
use Rattle.sms_world_model.proofs.Rounds.{by_cases, within}

-- ---- parts of a key

pub of_key_in : (h : List ℕ) (k : Key) (p : Accepted) (ps : List Accepted) → is_for h k p ≡ true → of_key h k (p ∷ ps) ≡ p ∷ of_key h k ps
of_key_in h k p ps e = cond-true (is_for h k p) (p ∷ of_key h k ps) (of_key h k ps) e

pub of_key_out : (h : List ℕ) (k : Key) (p : Accepted) (ps : List Accepted) → is_for h k p ≡ false → of_key h k (p ∷ ps) ≡ of_key h k ps
of_key_out h k p ps e = cond-false (is_for h k p) (p ∷ of_key h k ps) (of_key h k ps) e

pub among_of_key : (h : List ℕ) (k : Key) (q : Accepted) (ps : List Accepted) → Among q (of_key h k ps) → Among q ps × (is_for h k q ≡ true)
among_of_key h k q [] i = absurd i
among_of_key h k q (p ∷ ps) i =
    ⊎_elim
    (λ (e : is_for h k p ≡ true). ⊎_elim
    (λ (d : q ≡ p). (inl d, subst (λ y. is_for h k y ≡ true) (sym d) e))
    (λ (j : Among q (of_key h k ps)). let x = among_of_key h k q ps j in (inr x.0, x.1))
    (subst (λ l. Among q l) (of_key_in h k p ps e) i))
    (λ (e : is_for h k p ≡ false). let x = among_of_key h k q ps (subst (λ l. Among q l) (of_key_out h k p ps e) i) in (inr x.0, x.1))
    (cases_Bool (is_for h k p))

pub to_of_key : (h : List ℕ) (k : Key) (q : Accepted) (ps : List Accepted) → Among q ps → is_for h k q ≡ true → Among q (of_key h k ps)
to_of_key h k q [] i e = i
to_of_key h k q (p ∷ ps) i e =
    ⊎_elim
    (λ (d : q ≡ p). subst (λ l. Among q l) (sym (of_key_in h k p ps (subst (λ y. is_for h k y ≡ true) d e))) (inl d))
    (λ (j : Among q ps). ⊎_elim
    (λ (f : is_for h k p ≡ true). subst (λ l. Among q l) (sym (of_key_in h k p ps f)) (inr (to_of_key h k q ps j e)))
    (λ (f : is_for h k p ≡ false). subst (λ l. Among q l) (sym (of_key_out h k p ps f)) (to_of_key h k q ps j e))
    (cases_Bool (is_for h k p)))
    i

-- ---- places stay

pub at_among : (place : ℕ) (group : List Accepted) (es : List (List Accepted)) → IsEndedAt place group es → Among group es
at_among place group [] i = i
at_among place group (e ∷ es) i =
    ⊎_elim (λ (c : (place ≡ length es) × (group ≡ e)). inl c.1) (λ (j : IsEndedAt place group es). inr (at_among place group es j)) i

stays_grouped : (total place : ℕ) (group : List Accepted) (p : Accepted) (g : Groups) → IsEndedAt place group g.ended → IsEndedAt place group (grouped total p g).ended
stays_grouped total place group p g i = by_cases (λ g'. IsEndedAt place group g'.ended) total p g (λ _. i) (λ _ _. inr i) (λ _ _. i)

stays : (h : List ℕ) (k : Key) (place : ℕ) (group : List Accepted) (p : Accepted) (ps : List Accepted) → IsEndedAt place group (groups_of h k ps).ended → IsEndedAt place group (groups_of h k (p ∷ ps)).ended
stays h k place group p ps x =
    ⊎_elim
    (λ (t : is_for h k p ≡ true). subst (λ qs. IsEndedAt place group (groups k.total qs).ended) (sym (of_key_in h k p ps t)) (stays_grouped k.total place group p (groups_of h k ps) x))
    (λ (t : is_for h k p ≡ false). subst (λ qs. IsEndedAt place group (groups k.total qs).ended) (sym (of_key_out h k p ps t)) x)
    (cases_Bool (is_for h k p))

-- no place is joined twice
abbrev pub PlacesOnce : List Joined → Type 0
PlacesOnce [] = Unit {0}
PlacesOnce (j ∷ older) = HasNotJoined older j.handset j.key j.place × PlacesOnce older

pub record Placed (accepted : List Accepted) (joined : List Joined) : Type 0 where
  pub ended : (j : Joined) → Among j joined → IsEndedAt j.place j.group (groups_of j.handset j.key accepted).ended
  pub content : (j : Joined) → Among j joined → joined_content j.key.total j.group ≡ Some j.content
  pub once : PlacesOnce joined

abbrev pub IsPlaced : World → Type 0
IsPlaced w = Placed w.accepted w.joined

placed_take : (p : Accepted) (ac : List Accepted) (js : List Joined) → Placed ac js → Placed (p ∷ ac) js
placed_take p ac js h = record { ended = λ j i. stays j.handset j.key j.place j.group p ac (h.ended j i); content = h.content; once = h.once }

placed_join : (ac : List Accepted) (js : List Joined) (j : Joined) → Placed ac js → IsEndedAt j.place j.group (groups_of j.handset j.key ac).ended
    → HasNotJoined js j.handset j.key j.place → joined_content j.key.total j.group ≡ Some j.content → Placed ac (j ∷ js)
placed_join ac js j h at new is = record {
  ended = λ x i. ⊎_elim
      (λ (e : x ≡ j). subst (λ (z : Joined). IsEndedAt z.place z.group (groups_of z.handset z.key ac).ended) (sym e) at)
      (λ (i' : Among x js). h.ended x i') i;
  content = λ x i. ⊎_elim
      (λ (e : x ≡ j). subst (λ (z : Joined). joined_content z.key.total z.group ≡ Some z.content) (sym e) is)
      (λ (i' : Among x js). h.content x i') i;
  once = (new, h.once);
}

placed_step : (w : World) (m : ℕ) (step : Step) → IsPlaced w → Can w m step → IsPlaced (after w m step)
placed_step w m (Take u) h can = placed_take (pair_of u) w.accepted w.joined h
placed_step w m (Join j) h can = placed_join w.accepted w.joined j h can.0 can.1 can.2
placed_step w m _ h can = h

pub placed_run : (w : World) (items : List Item) → IsPlaced w → Run w items → IsPlaced (end w items)
placed_run w [] h run = h
placed_run w (i ∷ is) h run = placed_run (after_item w i) is (placed_step w i.moment i.step h run.0) run.1

pub placed_empty : IsPlaced empty
placed_empty = record { ended = λ j i. absurd i; content = λ j i. absurd i; once = tt }

pub joined_ended : (w : World) → IsPlaced w → JoinedEnded w
joined_ended w h j i = (h.ended j i, h.content j i)

pub group_ended : (w : World) → IsPlaced w → (j : Joined) → Among j w.joined → Among j.group (groups_of j.handset j.key w.accepted).ended
group_ended w h j i = at_among j.place j.group (groups_of j.handset j.key w.accepted).ended (h.ended j i)

-- ---- no round is joined twice

abbrev pub NoneTwice : List Accepted → Type 0
NoneTwice [] = Unit {0}
NoneTwice (p ∷ ps) = ¬ Among p ps × NoneTwice ps

pub key_once : (h : List ℕ) (k : Key) (ps : List Accepted) → DeliversOnce ps → NoneTwice (of_key h k ps)
key_once h k [] o = tt
key_once h k (p ∷ ps) o =
    ⊎_elim
    (λ (t : is_for h k p ≡ true).
    let d = deliver_for h k p t in
    subst NoneTwice (sym (of_key_in h k p ps t)) ((λ i. o.0 d.0 d.1.0 (among_of_key h k p ps i).0), key_once h k ps o.1))
    (λ (t : is_for h k p ≡ false). subst NoneTwice (sym (of_key_out h k p ps t)) (key_once h k ps o.1))
    (cases_Bool (is_for h k p))

-- the list has nothing in common with any of these
abbrev IsApart : List Accepted → List (List Accepted) → Type 0
IsApart ps es = (q : Accepted) (e : List Accepted) → Among q ps → Among e es → Among q e → ⊥

abbrev AllApart : List (List Accepted) → Type 0
AllApart [] = Unit {0}
AllApart (e ∷ es) = IsApart e es × AllApart es

abbrev GroupsApart : Groups → Type 0
GroupsApart g = IsApart g.present g.ended × AllApart g.ended

with_new : (total : ℕ) (p : Accepted) (ps : List Accepted) → ¬ Among p ps → IsApart (groups total ps).present (groups total ps).ended → IsApart (p ∷ (groups total ps).present) (groups total ps).ended
with_new total p ps new old q e i j k =
    ⊎_elim
    (λ (d : q ≡ p). new (subst (λ (y : Accepted). Among y ps) d ((within total ps).1 e q j k)))
    (λ (i' : Among q (groups total ps).present). old q e i' j k)
    i

groups_apart : (total : ℕ) (ps : List Accepted) → NoneTwice ps → GroupsApart (groups total ps)
groups_apart total [] o = ((λ q e i. absurd i), tt)
groups_apart total (p ∷ ps) o =
    let old = groups_apart total ps o.1 in
    let more = with_new total p ps o.0 old.0 in
    by_cases GroupsApart total p (groups total ps)
    (λ _. old)
    (λ _ _. ((λ q e i. absurd i), (more, old.1)))
    (λ _ _. (more, old.1))

places_apart : (es : List (List Accepted)) (a b : ℕ) (e f : List Accepted) (q : Accepted) → AllApart es → IsEndedAt a e es → IsEndedAt b f es → ¬ (a ≡ b) → Among q e → Among q f → ⊥
places_apart [] a b e f q o i j n k l = i
places_apart (x ∷ es) a b e f q o i j n k l =
    ⊎_elim
    (λ (c : (a ≡ length es) × (e ≡ x)). ⊎_elim
    (λ (d : (b ≡ length es) × (f ≡ x)). n (c.0 ∙ sym d.0))
    (λ (d : IsEndedAt b f es). o.0 q f (subst (λ y. Among q y) c.1 k) (at_among b f es d) l) j)
    (λ (c : IsEndedAt a e es). ⊎_elim
    (λ (d : (b ≡ length es) × (f ≡ x)). o.0 q e (subst (λ y. Among q y) d.1 l) (at_among a e es c) k)
    (λ (d : IsEndedAt b f es). places_apart es a b e f q o.1 c d n k l) j)
    i

-- an ended group has a part
ended_some : (total : ℕ) (ps : List Accepted) (e : List Accepted) → Among e (groups total ps).ended → (q : Accepted) × Among q e
ended_some total [] e i = absurd i
ended_some total (p ∷ ps) e i =
    by_cases (λ g'. Among e g'.ended → (q : Accepted) × Among q e) total p (groups total ps)
    (λ _ j. ended_some total ps e j)
    (λ _ _ j. ⊎_elim
    (λ (d : e ≡ p ∷ (groups total ps).present). (p, subst (λ y. Among p y) (sym d) (inl refl)))
    (λ (k : Among e (groups total ps).ended). ended_some total ps e k) j)
    (λ _ _ j. ended_some total ps e j)
    i

pub not_joined : (js : List Joined) (x : Joined) (h : List ℕ) (k : Key) (place : ℕ) → HasNotJoined js h k place → Among x js → x.handset ≡ h → x.key ≡ k → x.place ≡ place → ⊥
not_joined [] x h k place n i a b c = i
not_joined (y ∷ js) x h k place n i a b c =
    ⊎_elim
    (λ (e : x ≡ y). n.0 (subst (λ (z : Joined). (z.handset ≡ h) × (z.key ≡ k) × (z.place ≡ place)) e (a, b, c)))
    (λ (t : Among x js). not_joined js x h k place n.1 t a b c)
    i

rounds_once_in : (ac : List Accepted) (js : List Joined) → DeliversOnce ac → Placed ac js → RoundsOnce js
rounds_once_in ac [] o h = tt
rounds_once_in ac (j ∷ older) o h = (
  (λ x i a b round one two.
      let es = (groups_of j.handset j.key ac).ended in
      let mine : IsEndedAt j.place j.group es = h.ended j (inl refl) in
      let his : IsEndedAt x.place x.group es =
      subst (λ (y : List ℕ × Key). IsEndedAt x.place x.group (groups_of y.0 y.1 ac).ended) (λ t. (a t, b t)) (h.ended x (inr i)) in
      let some = ended_some j.key.total (of_key j.handset j.key ac) j.group (at_among j.place j.group es mine) in
      places_apart es j.place x.place j.group x.group some.0
      (groups_apart j.key.total (of_key j.handset j.key ac) (key_once j.handset j.key ac o)).1
      mine his
      (λ e. not_joined older x j.handset j.key j.place h.once.0 i a b (sym e))
      some.1
      ((two some.0).1 ((one some.0).0 some.1))),
  rounds_once_in ac older o (record { ended = λ x i. h.ended x (inr i); content = λ x i. h.content x (inr i); once = h.once.1 }),
)

pub rounds_once : (w : World) → IsFaithful w → IsPlaced w → RoundsOnce w.joined
rounds_once w f h = rounds_once_in w.accepted w.joined f.once h
