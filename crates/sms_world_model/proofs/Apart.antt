-- The steps of one side leave what the others have.
use Rattle.std.proofs.Common.{◌≡◌, ℕ, List, [], ◌∷◌, Bool, true, false, cond, refl, sym, ◌∙◌, ap, subst, inl, inr, ⊎_elim}
use Rattle.std.specs.Prelude.{◌==◌}
use Rattle.std.proofs.lemmas.Bool.{cases_Bool, cond-false, and_parts}
use Rattle.std.proofs.lemmas.Slice.Eq.{bytes_eq-Decides}
use Rattle.sms_base.specs.Among.{Among}
use Rattle.sms_world_model.specs.Place.{Key}
use Rattle.sms_world_model.specs.World.{is_same_handset, Allocation, Sent, Accepted, Joined, EntryState, Sending, Sent_up, OutEntry, World, IsLast, pair_of}
use Rattle.sms_world_model.specs.Groups.{is_for, groups_of}
use Rattle.sms_world_model.specs.WorldStep.{Step, Submit, Take, Settle, Expire, Delete, Fail, Receipt, Status, Close, Join, Write, Remove, Offer_up, Offer_memory, Receive, Lapse, Acknowledged, Refused, after, is_entry, replaced, removed, Item, after_item, end}
use Rattle.sms_world_model.specs.ScriptRun.{items}
use Rattle.sms_world_model.specs.Sides.{IsOfHandset, IsOfCentre, AllOfHandset, AllOfCentre, LeavesHandset, LeavesCentre}
use Rattle.sms_world_model.proofs.Keys.{for_is}
use Rattle.sms_world_model.proofs.GroupSteps.{others_stay}
use Rattle.sms_world_model.proofs.Upward.{removed_from}

-- ---- entries of another handset

not_entry : (e x : OutEntry) → ¬ (x.handset ≡ e.handset) → is_entry e x ≡ false
not_entry e x n =
    ⊎_elim
    (λ (t : is_entry e x ≡ true). absurd (n ((bytes_eq-Decides x.handset e.handset).0 (and_parts (is_same_handset x.handset e.handset) (x.number == e.number) t).0)))
    (λ (f : is_entry e x ≡ false). f)
    (cases_Bool (is_entry e x))

replaced_there : (e : OutEntry) (st : EntryState) (ob : List OutEntry) (x : OutEntry) → ¬ (x.handset ≡ e.handset) → Among x ob → Among x (replaced e st ob)
replaced_there e st [] x n i = i
replaced_there e st (y ∷ ys) x n i =
    ⊎_elim
    (λ (d : x ≡ y).
    let same = not_entry e y (λ q. n (ap (λ (z : OutEntry). z.handset) d ∙ q)) in
    inl (d ∙ sym (cond-false (is_entry e y) (let z : OutEntry = record y { state = st } in z) y same)))
    (λ (j : Among x ys). inr (replaced_there e st ys x n j))
    i

replaced_head : (e : OutEntry) (st : EntryState) (y x : OutEntry) (b : Bool) → is_entry e y ≡ b → ¬ (x.handset ≡ e.handset) → x ≡ cond b (record y { state = st }) y → x ≡ y
replaced_head e st y x true t n d =
    absurd (n (ap (λ (z : OutEntry). z.handset) d ∙ (bytes_eq-Decides y.handset e.handset).0 (and_parts (is_same_handset y.handset e.handset) (y.number == e.number) t).0))
replaced_head e st y x false t n d = d

replaced_back : (e : OutEntry) (st : EntryState) (ob : List OutEntry) (x : OutEntry) → ¬ (x.handset ≡ e.handset) → Among x (replaced e st ob) → Among x ob
replaced_back e st [] x n i = i
replaced_back e st (y ∷ ys) x n i =
    ⊎_elim
    (λ (d : x ≡ cond (is_entry e y) (record y { state = st }) y). inl (replaced_head e st y x (is_entry e y) refl n d))
    (λ (j : Among x (replaced e st ys)). inr (replaced_back e st ys x n j))
    i

removed_there : (e : OutEntry) (ob : List OutEntry) (x : OutEntry) → ¬ (x.handset ≡ e.handset) → Among x ob → Among x (removed e ob)
removed_there e [] x n i = i
removed_there e (y ∷ ys) x n i =
    ⊎_elim
    (λ (d : x ≡ y).
    let same = not_entry e y (λ q. n (ap (λ (z : OutEntry). z.handset) d ∙ q)) in
    subst (λ (l : List OutEntry). Among x l) (sym (cond-false (is_entry e y) (removed e ys) (y ∷ removed e ys) same)) (inl d))
    (λ (j : Among x ys). more (is_entry e y) (removed_there e ys x n j))
    i
  where
    more : (b : Bool) → Among x (removed e ys) → Among x (cond b (removed e ys) (y ∷ removed e ys))
    more true k = k
    more false k = inr k

-- ---- a step of another side

-- a step that is not of this handset
abbrev IsOther : List ℕ → Step → Type 0
IsOther h (Take u) = ¬ (u.handset ≡ h)
IsOther h (Join j) = ¬ (j.handset ≡ h)
IsOther h (Write e r) = ¬ (e.handset ≡ h)
IsOther h (Remove e) = ¬ (e.handset ≡ h)
IsOther h (Offer_up g e tpdu) = ¬ (e.handset ≡ h)
IsOther h (Offer_memory handset n r) = ¬ (handset ≡ h)
IsOther h (Lapse e st) = ¬ (e.handset ≡ h)
IsOther h (Acknowledged u g e) = ¬ (e.handset ≡ h)
IsOther h (Refused u g e st) = ¬ (e.handset ≡ h)
IsOther h _ = Unit {0}

apart : (a g h : List ℕ) → a ≡ g → ¬ (g ≡ h) → ¬ (a ≡ h)
apart a g h e n q = n (sym e ∙ q)

handset_other : (g h : List ℕ) (s : Step) → ¬ (g ≡ h) → IsOfHandset g s → IsOther h s
handset_other g h (Take u) n o = apart u.handset g h o n
handset_other g h (Join j) n o = apart j.handset g h o n
handset_other g h (Write e r) n o = apart e.handset g h o n
handset_other g h (Remove e) n o = apart e.handset g h o n
handset_other g h (Offer_up x e tpdu) n o = apart e.handset g h o n
handset_other g h (Offer_memory a i r) n o = apart a g h o n
handset_other g h (Lapse e st) n o = apart e.handset g h o n
handset_other g h (Acknowledged u x e) n o = apart e.handset g h o n
handset_other g h (Refused u x e st) n o = apart e.handset g h o n
handset_other g h _ n o = tt

centre_other : (h : List ℕ) (s : Step) → IsOfCentre s → IsOther h s
centre_other h (Take u) o = absurd o
centre_other h (Join j) o = absurd o
centre_other h (Write e r) o = absurd o
centre_other h (Remove e) o = absurd o
centre_other h (Offer_up x e tpdu) o = absurd o
centre_other h (Offer_memory a i r) o = absurd o
centre_other h (Lapse e st) o = absurd o
centre_other h (Acknowledged u x e) o = absurd o
centre_other h (Refused u x e st) o = absurd o
centre_other h _ o = tt

-- nothing of the handsets changed
nothing : (h : List ℕ) (w v : World) → v.accepted ≡ w.accepted → v.joined ≡ w.joined → v.outbox ≡ w.outbox → v.up ≡ w.up → LeavesHandset h w v
nothing h w v a j o u = record {
  last = λ p e i. subst (λ (ps : List Accepted). IsLast p ps) (sym a) i;
  last_back = λ p e i. subst (λ (ps : List Accepted). IsLast p ps) a i;
  groups = λ k. ap (λ (ps : List Accepted). groups_of h k ps) a;
  joined = λ x e i. subst (λ (js : List Joined). Among x js) (sym j) i;
  joined_back = λ x e i. subst (λ (js : List Joined). Among x js) j i;
  entry = λ x e i. subst (λ (es : List OutEntry). Among x es) (sym o) i;
  entry_back = λ x e i. subst (λ (es : List OutEntry). Among x es) o i;
  given = λ g e i. subst (λ (gs : List Allocation). Among g gs) (sym u) i;
  given_back = λ g e i. subst (λ (gs : List Allocation). Among g gs) u i;
}

took : (h : List ℕ) (w v : World) (p : Accepted) → ¬ (p.handset ≡ h) → v.accepted ≡ p ∷ w.accepted → LeavesHandset h (record v { accepted = w.accepted }) v
took h w v p n a = record {
  last = λ q e i. subst (λ (ps : List Accepted). IsLast q ps) (sym a) (inr ((λ same. n (sym same.0 ∙ e)), i));
  last_back = λ q e i. ⊎_elim
      (λ (d : q ≡ p). absurd (n (ap (λ (z : Accepted). z.handset) (sym d) ∙ e)))
      (λ (d : ¬ ((q.handset ≡ p.handset) × (q.reference ≡ p.reference)) × IsLast q w.accepted). d.1)
      (subst (λ (ps : List Accepted). IsLast q ps) a i);
  groups = λ k. ap (λ (ps : List Accepted). groups_of h k ps) a ∙ others_stay h k p w.accepted (not_for k);
  joined = λ x e i. i;
  joined_back = λ x e i. i;
  entry = λ x e i. i;
  entry_back = λ x e i. i;
  given = λ g e i. i;
  given_back = λ g e i. i;
}
  where
    not_for : (k : Key) → is_for h k p ≡ false
    not_for k = ⊎_elim (λ (t : is_for h k p ≡ true). absurd (n (for_is h k p t).0)) (λ (f : is_for h k p ≡ false). f) (cases_Bool (is_for h k p))

-- another handset's entry is in another state
changed : (h : List ℕ) (w : World) (bag : List Sent) (y : OutEntry) (st : EntryState) → ¬ (y.handset ≡ h) → LeavesHandset h w (record w { outbox = replaced y st w.outbox; bag = bag })
changed h w bag y st o = record {
  last = λ p e i. i;
  last_back = λ p e i. i;
  groups = λ k. refl;
  joined = λ x e i. i;
  joined_back = λ x e i. i;
  entry = λ x e i. replaced_there y st w.outbox x (λ q. o (sym q ∙ e)) i;
  entry_back = λ x e i. replaced_back y st w.outbox x (λ q. o (sym q ∙ e)) i;
  given = λ g e i. i;
  given_back = λ g e i. i;
}

step_leaves : (h : List ℕ) (w : World) (m : ℕ) (s : Step) → IsOther h s → LeavesHandset h w (after w m s)
step_leaves h w m (Take u) o =
    let l = took h w (record w { accepted = pair_of u ∷ w.accepted }) (pair_of u) o refl in
    record { last = l.last; last_back = l.last_back; groups = l.groups; joined = λ x e i. i; joined_back = λ x e i. i; entry = λ x e i. i; entry_back = λ x e i. i; given = λ g e i. i; given_back = λ g e i. i }
step_leaves h w m (Join j) o = record {
  last = λ p e i. i;
  last_back = λ p e i. i;
  groups = λ k. refl;
  joined = λ x e i. inr i;
  joined_back = λ x e i. ⊎_elim (λ (d : x ≡ j). absurd (o (ap (λ (z : Joined). z.handset) (sym d) ∙ e))) (λ (k : Among x w.joined). k) i;
  entry = λ x e i. i;
  entry_back = λ x e i. i;
  given = λ g e i. i;
  given_back = λ g e i. i;
}
step_leaves h w m (Write y r) o = record {
  last = λ p e i. i;
  last_back = λ p e i. i;
  groups = λ k. refl;
  joined = λ x e i. i;
  joined_back = λ x e i. i;
  entry = λ x e i. inr i;
  entry_back = λ x e i. ⊎_elim (λ (d : x ≡ y). absurd (o (ap (λ (z : OutEntry). z.handset) (sym d) ∙ e))) (λ (k : Among x w.outbox). k) i;
  given = λ g e i. inr i;
  given_back = λ g e i. ⊎_elim (λ d. absurd (o (ap (λ (z : Allocation). z.handset) (sym d) ∙ e))) (λ (k : Among g w.up). k) i;
}
step_leaves h w m (Remove y) o = record {
  last = λ p e i. i;
  last_back = λ p e i. i;
  groups = λ k. refl;
  joined = λ x e i. i;
  joined_back = λ x e i. i;
  entry = λ x e i. removed_there y w.outbox x (λ q. o (sym q ∙ e)) i;
  entry_back = λ x e i. removed_from y w.outbox x i;
  given = λ g e i. i;
  given_back = λ g e i. i;
}
step_leaves h w m (Offer_up g y tpdu) o = changed h w (after w m (Offer_up g y tpdu)).bag y Sending o
step_leaves h w m (Offer_memory a n r) o = record {
  last = λ p e i. i;
  last_back = λ p e i. i;
  groups = λ k. refl;
  joined = λ x e i. i;
  joined_back = λ x e i. i;
  entry = λ x e i. i;
  entry_back = λ x e i. i;
  given = λ g e i. inr i;
  given_back = λ g e i. ⊎_elim (λ d. absurd (o (ap (λ (z : Allocation). z.handset) (sym d) ∙ e))) (λ (k : Among g w.up). k) i;
}
step_leaves h w m (Lapse y st) o = changed h w w.bag y st o
step_leaves h w m (Acknowledged u g y) o = changed h w w.bag y Sent_up o
step_leaves h w m (Refused u g y st) o = changed h w w.bag y st o
step_leaves h w m s o = nothing h w (after w m s) refl refl refl refl

-- ---- runs

leaves_then : (h : List ℕ) (w v u : World) → LeavesHandset h w v → LeavesHandset h v u → LeavesHandset h w u
leaves_then h w v u a b = record {
  last = λ p e i. b.last p e (a.last p e i);
  last_back = λ p e i. a.last_back p e (b.last_back p e i);
  groups = λ k. b.groups k ∙ a.groups k;
  joined = λ j e i. b.joined j e (a.joined j e i);
  joined_back = λ j e i. a.joined_back j e (b.joined_back j e i);
  entry = λ x e i. b.entry x e (a.entry x e i);
  entry_back = λ x e i. a.entry_back x e (b.entry_back x e i);
  given = λ g e i. b.given g e (a.given g e i);
  given_back = λ g e i. a.given_back g e (b.given_back g e i);
}

item_leaves : (h : List ℕ) (w : World) (i : Item) → IsOther h i.step → LeavesHandset h w (after_item w i)
item_leaves h w i o =
    let l = step_leaves h w i.moment i.step o in
    record { last = l.last; last_back = l.last_back; groups = l.groups; joined = l.joined; joined_back = l.joined_back; entry = l.entry; entry_back = l.entry_back; given = l.given; given_back = l.given_back }

pub handset_leaves_handset : (g h : List ℕ) (w : World) (m : ℕ) (b : Bool) (ss : List Step) → ¬ (g ≡ h) → AllOfHandset g ss → LeavesHandset h w (end w (items m b ss))
handset_leaves_handset g h w m b [] n o = nothing h w w refl refl refl refl
handset_leaves_handset g h w m b (s ∷ ss) n o =
    let i : Item = record { step = s; moment = m; stopped = b } in
    leaves_then h w (after_item w i) (end (after_item w i) (items m b ss)) (item_leaves h w i (handset_other g h s n o.0)) (handset_leaves_handset g h (after_item w i) m b ss n o.1)

pub centre_leaves_handset : (h : List ℕ) (w : World) (m : ℕ) (b : Bool) (ss : List Step) → AllOfCentre ss → LeavesHandset h w (end w (items m b ss))
centre_leaves_handset h w m b [] o = nothing h w w refl refl refl refl
centre_leaves_handset h w m b (s ∷ ss) o =
    let i : Item = record { step = s; moment = m; stopped = b } in
    leaves_then h w (after_item w i) (end (after_item w i) (items m b ss)) (item_leaves h w i (centre_other h s o.0)) (centre_leaves_handset h (after_item w i) m b ss o.1)

centre_step : (h : List ℕ) (w : World) (m : ℕ) (s : Step) → IsOfHandset h s → LeavesCentre w (after w m s)
centre_step h w m (Submit s ts) o = absurd o
centre_step h w m (Settle u g id n) o = absurd o
centre_step h w m (Expire id) o = absurd o
centre_step h w m (Delete id) o = absurd o
centre_step h w m (Fail u g id n) o = absurd o
centre_step h w m (Receipt s f) o = absurd o
centre_step h w m (Status s f t) o = absurd o
centre_step h w m (Close id) o = absurd o
centre_step h w m (Receive u s ts) o = absurd o
centre_step h w m _ o = record { table = refl; receipts = refl; reports = refl; down = refl }

pub handset_leaves_centre : (h : List ℕ) (w : World) (m : ℕ) (b : Bool) (ss : List Step) → AllOfHandset h ss → LeavesCentre w (end w (items m b ss))
handset_leaves_centre h w m b [] o = record { table = refl; receipts = refl; reports = refl; down = refl }
handset_leaves_centre h w m b (s ∷ ss) o =
    let i : Item = record { step = s; moment = m; stopped = b } in
    let x = centre_step h w m s o.0 in
    let y = handset_leaves_centre h (after_item w i) m b ss o.1 in
    record { table = y.table ∙ x.table; receipts = y.receipts ∙ x.receipts; reports = y.reports ∙ x.reports; down = y.down ∙ x.down }
