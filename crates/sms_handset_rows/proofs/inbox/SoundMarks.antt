-- Sound rows of discarded groups.
use Rattle.std.proofs.Common.{ℕ, ◌<◌, List, ◌≡◌, ◌+◌, ◌≤◌, arith, [], ◌∷◌, length, ap, ⊎_elim, sym, ◌∙◌, true, false, Some, None, refl, inl, inr, subst, ◌++◌}
use Rattle.std.proofs.lemmas.Bool.{cases_lt, cases_eq, cases_Bool, cond-true, cond-false}
use Rattle.sms_base.specs.Among.{Among}
use Rattle.sms_rows.specs.table.Table.{AllAbove, insert, without, put, Rises}
use Rattle.sms_rows.proofs.table.Tables.{insert_behind, insert_here, length_without, without_behind, without_here, among_put, rises_put, among_without, rises_without, length_put}
use Rattle.sms_handset_rows.proofs.inbox.SoundEntries.{all_at, StaysFree, is_apart, no_entry, differ_push}
use Rattle.sms_handset_rows.specs.declared.inbox.entry.Group.{Group}
use Rattle.sms_handset_rows.specs.declared.inbox.discarded_group.DiscardedGroup.{DiscardedGroup}
use Rattle.sms_handset_rows.specs.inbox.Groups.{is_same_group, mark_of, all_numbers, is_among}
use Rattle.sms_handset_rows.proofs.inbox.GroupMembers.{one_group, other_group, same_group}
use Rattle.sms_handset_rows.specs.declared.inbox.entry.Entry.{Entry}
use Rattle.sms_handset_rows.specs.inbox.SoundInbox.{Differ, IsApart, IsGiven, AreMarks}
use Rattle.sms_handset_rows.specs.inbox.Keys.{mark_key}

-- ---- rows of a table

pub above_at : {A : Type 0} (key : A → ℕ) (n : ℕ) (xs : List A) → AllAbove key n xs → (x : A) → Among x xs → n < key x
above_at {A} key n xs h x m = all_at (λ (z : A). n < key z) xs h x m

length_inserted : {A : Type 0} (key : A → ℕ) (x : A) (xs : List A) → length (insert key x xs) ≡ length xs + 1
length_inserted key x [] = omega arith
length_inserted {A} key x (y ∷ ys) = ⊎_elim
    (λ (e : key x < key y). let q = ap (λ (l : List A). length l) (insert_here key x y ys e) in omega (arith, q))
    (λ (e : key y ≤ key x). let q = ap (λ (l : List A). length l) (insert_behind key x y ys e) in omega (arith, q, length_inserted key x ys))
    (cases_lt (key x) (key y))

pub length_shorter : {A : Type 0} (key : A → ℕ) (n : ℕ) (xs : List A) (x : A) → Among x xs → key x ≡ n → length (without key n xs) + 1 ≤ length xs
length_shorter key n [] x m e = elim m [ ]
length_shorter {A} key n (y ∷ ys) x m e = ⊎_elim
    (λ (q : key y ≡ n). let s = ap (λ (l : List A). length l) (without_here key n y ys q) in omega (arith, s, length_without key n ys))
    (λ (q : key y ≡ n → ⊥).
    let s = ap (λ (l : List A). length l) (without_behind key n y ys q) in
    let r : Among x ys = ⊎_elim (λ (f : x ≡ y). absurd (q (ap key (sym f) ∙ e))) (λ (r : Among x ys). r) m in
    omega (arith, s, length_shorter key n ys x r e))
    (cases_eq (key y) n)

-- a row that takes the place of another adds none
pub length_replaced : {A : Type 0} (key : A → ℕ) (x y : A) (xs : List A) → Among y xs → key y ≡ key x → length (put key x xs) ≤ length xs
length_replaced key x y xs m e = omega (arith, length_inserted key x (without key (key x) xs), length_shorter key (key x) xs y m e)

-- ---- the mark of a group

pub no_mark : (g : Group) (ms : List DiscardedGroup) (x : DiscardedGroup) → mark_of g ms ≡ None → Among x ms → ¬ (x.group ≡ g)
no_mark g [] x e m = elim m [ ]
no_mark g (y ∷ ys) x e m = ⊎_elim
    (λ (t : is_same_group y.group g ≡ true). let bad : Some y ≡ None = sym (cond-true (is_same_group y.group g) (Some y) (mark_of g ys) t) ∙ e in absurd cc)
    (λ (f : is_same_group y.group g ≡ false). ⊎_elim
    (λ (s : x ≡ y). λ q.
    let one : is_same_group y.group g ≡ true = ap (λ (z : Group). is_same_group z g) (ap (λ (z : DiscardedGroup). z.group) (sym s) ∙ q) ∙ one_group g in absurd cc)
    (λ (r : Among x ys). no_mark g ys x (sym (cond-false (is_same_group y.group g) (Some y) (mark_of g ys) f) ∙ e) r)
    m)
    (cases_Bool (is_same_group y.group g))

pub mark_none : (g : Group) (ms : List DiscardedGroup) → ((x : DiscardedGroup) → Among x ms → ¬ (x.group ≡ g)) → mark_of g ms ≡ None
mark_none g [] h = refl
mark_none g (y ∷ ys) h =
    cond-false (is_same_group y.group g) (Some y) (mark_of g ys) (other_group y.group g (h y (inl refl))) ∙ mark_none g ys (λ x m. h x (inr m))

pub mark_found : (g : Group) (ms : List DiscardedGroup) (x : DiscardedGroup) → mark_of g ms ≡ Some x → Among x ms × (x.group ≡ g)
mark_found g [] x e = absurd cc
mark_found g (y ∷ ys) x e = ⊎_elim
    (λ (t : is_same_group y.group g ≡ true).
    let both : Some x ≡ Some y = sym e ∙ cond-true (is_same_group y.group g) (Some y) (mark_of g ys) t in
    let q : x ≡ y = cc in (inl q, ap (λ (z : DiscardedGroup). z.group) q ∙ same_group y.group g t))
    (λ (f : is_same_group y.group g ≡ false).
    let r = mark_found g ys x (sym (cond-false (is_same_group y.group g) (Some y) (mark_of g ys) f) ∙ e) in (inr r.0, r.1))
    (cases_Bool (is_same_group y.group g))

-- ---- discarded groups

abbrev pub IsMark : ℕ → List Entry → DiscardedGroup → Type 0
IsMark k es m = IsGiven k m.number × IsApart m.number es × Differ m.seen × (all_numbers m.group.total m.seen ≡ false)

pub record Discarded (k : ℕ) (es : List Entry) (ms : List DiscardedGroup) : Type 0 where
  pub order : Rises mark_key ms
  pub each : (m : DiscardedGroup) → Among m ms → IsMark k es m
  -- one mark a group
  pub one : (x y : DiscardedGroup) → Among x ms → Among y ms → x.group ≡ y.group → x.number ≡ y.number
  pub few : length ms ≤ 64

pub discarded_from : (k : ℕ) (es : List Entry) (ms : List DiscardedGroup) → Rises mark_key ms → AreMarks k es ms → length ms ≤ 64 → Discarded k es ms
discarded_from k es ms r a few = record { order = r; each = each_of ms a; one = one_of ms a; few = few }
  where
    each_of : (ms : List DiscardedGroup) → AreMarks k es ms → (m : DiscardedGroup) → Among m ms → IsMark k es m
    each_of [] a m i = elim i [ ]
    each_of (y ∷ ys) a m i = ⊎_elim (λ (e : m ≡ y). subst (λ (z : DiscardedGroup). IsMark k es z) (sym e) (a.0, a.1, a.2, a.3)) (λ (s : Among m ys). each_of ys a.5 m s) i

    one_of : (ms : List DiscardedGroup) → AreMarks k es ms → (x y : DiscardedGroup) → Among x ms → Among y ms → x.group ≡ y.group → x.number ≡ y.number
    one_of [] a x y i j q = elim i [ ]
    one_of (z ∷ zs) a x y i j q = ⊎_elim
        (λ (e : x ≡ z). ⊎_elim
        (λ (f : y ≡ z). ap (λ (w : DiscardedGroup). w.number) (e ∙ sym f))
        (λ (s : Among y zs). absurd (no_mark z.group zs y a.4 s (sym q ∙ ap (λ (w : DiscardedGroup). w.group) e)))
        j)
        (λ (r : Among x zs). ⊎_elim
        (λ (f : y ≡ z). absurd (no_mark z.group zs x a.4 r (q ∙ ap (λ (w : DiscardedGroup). w.group) f)))
        (λ (s : Among y zs). one_of zs a.5 x y r s q)
        j)
        i

pub marks_are : (k : ℕ) (es : List Entry) (ms : List DiscardedGroup) → Discarded k es ms → AreMarks k es ms
marks_are k es ms d = marks_of ms d.order d.each d.one
  where
    marks_of : (ms : List DiscardedGroup) → Rises mark_key ms → ((m : DiscardedGroup) → Among m ms → IsMark k es m)
        → ((x y : DiscardedGroup) → Among x ms → Among y ms → x.group ≡ y.group → x.number ≡ y.number) → AreMarks k es ms
    marks_of [] r each one = tt
    marks_of (m ∷ ms) r each one =
        let i = each m (inl refl) in (
          i.0,
          i.1,
          i.2,
          i.3,
          mark_none m.group ms (λ x a q. let e = one x m (inr a) (inl refl) q in let l = above_at mark_key m.number ms r.0 x a in absurd (omega (arith, e, l))),
          marks_of ms r.1 (λ x a. each x (inr a)) (λ x y a b q. one x y (inr a) (inr b) q),
        )

-- entries came and left, and numbers were given
pub discarded_entries : (k l : ℕ) (es fs : List Entry) (ms : List DiscardedGroup) → k ≤ l → StaysFree k es fs → Discarded k es ms → Discarded l fs ms
discarded_entries k l es fs ms le free d = record {
  order = d.order;
  each = λ m a.
      let i = d.each m a in
      ((i.0.0, omega (arith, i.0.1)), is_apart m.number fs (free m.number i.0.1 (no_entry m.number es i.1)), i.2, i.3);
  one = d.one;
  few = d.few;
}

-- ---- a part of a discarded group

-- the mark with a number more
abbrev pub seen_too : ℕ → DiscardedGroup → DiscardedGroup
seen_too n m = record m { seen = m.seen ++ n ∷ [] }

pub mark_more : (k : ℕ) (n : ℕ) (m : DiscardedGroup) (es : List Entry) (ms : List DiscardedGroup) → Among m ms → is_among n m.seen ≡ false → all_numbers m.group.total (m.seen ++ n ∷ []) ≡ false
    → Discarded k es ms → Discarded k es (put mark_key (seen_too n m) ms)
mark_more k n m es ms i new lacks d =
    let w : DiscardedGroup = seen_too n m in
    let old : (x : DiscardedGroup) → Among x (put mark_key w ms) → (z : DiscardedGroup) × (Among z ms × (z.group ≡ x.group) × (z.number ≡ x.number)) =
    λ x a. ⊎_elim (λ (e : x ≡ w). (m, (i, ap (λ (z : DiscardedGroup). z.group) (sym e), ap (λ (z : DiscardedGroup). z.number) (sym e)))) (λ (r : Among x ms × ¬ (x.number ≡ m.number)). (x, (r.0, refl, refl))) (among_put mark_key x w ms a) in
    record {
      order = rises_put mark_key w ms d.order;
      each = λ x a. ⊎_elim
          (λ (e : x ≡ w). let s = d.each m i in subst (λ (z : DiscardedGroup). IsMark k es z) (sym e) (s.0, s.1, differ_push n m.seen s.2 new, lacks))
          (λ (r : Among x ms × ¬ (x.number ≡ m.number)). d.each x r.0)
          (among_put mark_key x w ms a);
      one = λ x y a b q.
          let s = old x a in
          let t = old y b in
          sym s.1.2 ∙ d.one s.0 t.0 s.1.0 t.1.0 (s.1.1 ∙ q ∙ sym t.1.1) ∙ t.1.2;
      few = (let l = length_replaced mark_key w m ms i refl in omega (arith, l, d.few));
    }

-- no group is discarded by that
pub more_none : (n : ℕ) (m : DiscardedGroup) (ms : List DiscardedGroup) → Among m ms → (g : Group) → mark_of g ms ≡ None → mark_of g (put mark_key (seen_too n m) ms) ≡ None
more_none n m ms i g e =
    mark_none g (put mark_key (seen_too n m) ms)
    (λ x a. ⊎_elim
    (λ (q : x ≡ seen_too n m). λ s. no_mark g ms m e i (ap (λ (z : DiscardedGroup). z.group) (sym q) ∙ s))
    (λ (r : Among x ms × ¬ (x.number ≡ m.number)). no_mark g ms x e r.0)
    (among_put mark_key x (seen_too n m) ms a))

pub mark_gone : (k n : ℕ) (es : List Entry) (ms : List DiscardedGroup) → Discarded k es ms → Discarded k es (without mark_key n ms)
mark_gone k n es ms d = record {
  order = rises_without mark_key n ms d.order;
  each = λ x a. d.each x (among_without mark_key x n ms a).0;
  one = λ x y a b q. d.one x y (among_without mark_key x n ms a).0 (among_without mark_key y n ms b).0 q;
  few = (let l = length_without mark_key n ms in omega (arith, l, d.few));
}

pub gone_none : (n : ℕ) (ms : List DiscardedGroup) (g : Group) → mark_of g ms ≡ None → mark_of g (without mark_key n ms) ≡ None
gone_none n ms g e = mark_none g (without mark_key n ms) (λ x a. no_mark g ms x e (among_without mark_key x n ms a).0)

-- ---- a group is discarded

pub mark_new : (k : ℕ) (w : DiscardedGroup) (es : List Entry) (ms : List DiscardedGroup) → IsMark k es w → mark_of w.group ms ≡ None → length ms < 64 → Discarded k es ms → Discarded k es (put mark_key w ms)
mark_new k w es ms s none few d = record {
  order = rises_put mark_key w ms d.order;
  each = λ x a. ⊎_elim (λ (e : x ≡ w). subst (λ (z : DiscardedGroup). IsMark k es z) (sym e) s) (λ (r : Among x ms × ¬ (x.number ≡ w.number)). d.each x r.0) (among_put mark_key x w ms a);
  one = λ x y a b q. ⊎_elim
      (λ (e : x ≡ w). ⊎_elim
      (λ (f : y ≡ w). ap (λ (z : DiscardedGroup). z.number) (e ∙ sym f))
      (λ (t : Among y ms × ¬ (y.number ≡ w.number)). absurd (no_mark w.group ms y none t.0 (sym q ∙ ap (λ (z : DiscardedGroup). z.group) e)))
      (among_put mark_key y w ms b))
      (λ (r : Among x ms × ¬ (x.number ≡ w.number)). ⊎_elim
      (λ (f : y ≡ w). absurd (no_mark w.group ms x none r.0 (q ∙ ap (λ (z : DiscardedGroup). z.group) f)))
      (λ (t : Among y ms × ¬ (y.number ≡ w.number)). d.one x y r.0 t.0 q)
      (among_put mark_key y w ms b))
      (among_put mark_key x w ms a);
  few = (let l = length_put mark_key w ms in omega (arith, l));
}

pub new_none : (w : DiscardedGroup) (ms : List DiscardedGroup) (g : Group) → ¬ (w.group ≡ g) → mark_of g ms ≡ None → mark_of g (put mark_key w ms) ≡ None
new_none w ms g ne e =
    mark_none g (put mark_key w ms)
    (λ x a. ⊎_elim (λ (q : x ≡ w). λ s. ne (ap (λ (z : DiscardedGroup). z.group) (sym q) ∙ s)) (λ (r : Among x ms × ¬ (x.number ≡ w.number)). no_mark g ms x e r.0) (among_put mark_key x w ms a))
