-- Rows that stand in order, and one among them: what comes before it and behind it.
use Rattle.std.proofs.Common.{◌≡◌, ℕ, ◌<◌, ◌≤◌, List, [], ◌∷◌, ◌++◌, Option, Some, None, refl, sym, ◌∙◌, ap, append_assoc, subst, arith, true, false, ⊎_elim}
use Rattle.std.specs.List.{AllByRecursion}
use Rattle.std.specs.Prelude.{Bool, IfOk, Result, Ok, Err, nat_le, nat_lt}
use Rattle.std.proofs.lemmas.Bool.{cases_Bool, cases_eq, cases_lt, cond-true, cond-false, le-leb, le-ltb, leb-true, lt-leb, ltb-true}
use Rattle.std.specs.declared.alloc.Global.{Global}
use Rattle.std.specs.declared.sync.Arc.{Arc}
use Rattle.sms_rows.specs.table.Table.{AllAbove, Rises, applied, change_key, change_row, insert, put, row_at, without}
use Rattle.sms_rows.specs.declared.table.change.Change.{Change}
use Rattle.sms_rows.specs.declared.table.change.Change.TheVariants.{Put, Remove}
use Rattle.sms_rows.proofs.table.Tables.{above_lower, insert_behind, insert_here, row_behind, row_here, without_behind, without_here}
use Rattle.sms_rows.specs.index.Bounds.{AreBetween, IsBounded}
use Rattle.sms_rows.specs.index.First.{first_such, has_none, is_from, is_within}
use Rattle.sms_rows.specs.index.Picked.{before_all}
use Rattle.sms_rows.specs.declared.index.bound.Bound.{Bound}
use Rattle.sms_rows.specs.declared.index.bound.Bound.TheVariants.{Past, Ahead}
use Rattle.sms_rows.specs.index.Shapes.{TreeOf}
use Rattle.sms_rows.specs.index.Trees.{tree_of}
use Rattle.sms_rows.specs.declared.index.tree.Fork.{Fork}
use Rattle.sms_rows.proofs.table.Places.{above_none}

-- ---- the rows of a tree with a root

pub rooted : {A : Type 0} (root : Option (Arc (Fork A) Global)) (fork : Arc (Fork A) Global) (d : Fork A) (t : TreeOf A) → tree_of root ≡ t → root ≡ Some fork → d ≡ fork.value
    → t.rows ≡ d.left.rows ++ d.row ∷ d.right.rows
rooted root fork d t view is same =
    ap (λ (u : TreeOf _). u.rows) (sym view) ∙ ap (λ (o : Option (Arc (Fork _) Global)). (tree_of o).rows) is ∙ ap (λ (f : Fork _). f.left.rows ++ f.row ∷ f.right.rows) (sym same)

pub rootless : {A : Type 0} (root : Option (Arc (Fork A) Global)) (t : TreeOf A) → tree_of root ≡ t → root ≡ None → t.rows ≡ []
rootless root t view is = ap (λ (u : TreeOf _). u.rows) (sym view) ∙ ap (λ (o : Option (Arc (Fork _) Global)). (tree_of o).rows) is

pub bounded_root : {A : Type 0} (moment : A → ℕ) (root : Option (Arc (Fork A) Global)) (fork : Arc (Fork A) Global) (d : Fork A) (t : TreeOf A) → tree_of root ≡ t → root ≡ Some fork → d ≡ fork.value
    → IsBounded moment (tree_of root) → AreBetween moment d.earliest d.latest t.rows
bounded_root moment root fork d t view is same h =
    let low : t.earliest ≡ d.earliest = ap (λ (u : TreeOf _). u.earliest) (sym view) ∙ ap (λ (o : Option (Arc (Fork _) Global)). (tree_of o).earliest) is ∙ ap (λ (f : Fork _). f.earliest) (sym same) in
    let high : t.latest ≡ d.latest = ap (λ (u : TreeOf _). u.latest) (sym view) ∙ ap (λ (o : Option (Arc (Fork _) Global)). (tree_of o).latest) is ∙ ap (λ (f : Fork _). f.latest) (sym same) in
    let whole : IsBounded moment t = subst (λ (u : TreeOf _). IsBounded moment u) view h in
    subst (λ (n : ℕ). AreBetween moment d.earliest n t.rows) high (subst (λ (n : ℕ). AreBetween moment n t.latest t.rows) low whole)

-- ---- rows beside two forks

pub leans_left : {A : Type 0} (rows l m r : List A) (x y : A) → rows ≡ l ++ x ∷ m → l ++ x ∷ (m ++ y ∷ r) ≡ rows ++ y ∷ r
leans_left rows l m r x y e = sym (append_assoc l (x ∷ m) (y ∷ r)) ∙ ap (λ (s : List _). s ++ y ∷ r) (sym e)

pub leans_right : {A : Type 0} (rows l m r : List A) (x y : A) → rows ≡ m ++ y ∷ r → (l ++ x ∷ m) ++ y ∷ r ≡ l ++ x ∷ rows
leans_right rows l m r x y e = append_assoc l (x ∷ m) (y ∷ r) ∙ ap (λ (s : List _). l ++ x ∷ s) (sym e)

pub splits : {A : Type 0} (rows l m n r : List A) (x y z : A) → rows ≡ m ++ y ∷ n → (l ++ x ∷ m) ++ y ∷ (n ++ z ∷ r) ≡ l ++ x ∷ (rows ++ z ∷ r)
splits rows l m n r x y z e = leans_right (rows ++ z ∷ r) l m (n ++ z ∷ r) x y (sym (leans_left rows m n r y z e))

-- what follows of the value of a success
pub of_ok : {X : Type 0} {E : Type 0} (P Q : X → Type 0) (r : Result X E) → ((x : X) → P x → Q x) → IfOk r P → IfOk r Q
of_ok P Q (Ok x) f h = f x h
of_ok P Q (Err e) f h = tt

module _ {A : Type 0} (key : A → ℕ) where
  abbrev AllBelow : ℕ → List A → Type 0
  AllBelow n xs = AllByRecursion (λ x. key x < n) xs

  above_right : (n : ℕ) (l : List A) (x : A) (r : List A) → AllAbove key n (l ++ x ∷ r) → n < key x
  above_right n [] x r h = h.0
  above_right n (y ∷ l) x r h = above_right n l x r h.1

  above_left : (n : ℕ) (l : List A) (x : A) (r : List A) → AllAbove key n (l ++ x ∷ r) → AllAbove key n l
  above_left n [] x r h = tt
  above_left n (y ∷ l) x r h = (h.0, above_left n l x r h.1)

  pub rises_left : (l : List A) (x : A) (r : List A) → Rises key (l ++ x ∷ r) → Rises key l
  rises_left [] x r h = tt
  rises_left (y ∷ l) x r h = (above_left (key y) l x r h.0, rises_left l x r h.1)

  pub rises_right : (l : List A) (x : A) (r : List A) → Rises key (l ++ x ∷ r) → Rises key r
  rises_right [] x r h = h.1
  rises_right (y ∷ l) x r h = rises_right l x r h.1

  above_behind : (l : List A) (x : A) (r : List A) → Rises key (l ++ x ∷ r) → AllAbove key (key x) r
  above_behind [] x r h = h.0
  above_behind (y ∷ l) x r h = above_behind l x r h.1

  below_before : (l : List A) (x : A) (r : List A) → Rises key (l ++ x ∷ r) → AllBelow (key x) l
  below_before [] x r h = tt
  below_before (y ∷ l) x r h = (above_right (key y) l x r h.0, below_before l x r h.1)

  same_above : (n : ℕ) (xs : List A) → AllAbove key n xs → without key n xs ≡ xs
  same_above n [] h = refl
  same_above n (x ∷ xs) h = without_behind key n x xs (λ e. absurd (omega (arith, h.0))) ∙ ap (λ (l : List A). x ∷ l) (same_above n xs h.1)

  insert_above : (x : A) (xs : List A) → AllAbove key (key x) xs → insert key x xs ≡ x ∷ xs
  insert_above x [] h = refl
  insert_above x (y ∷ ys) h = insert_here key x y ys h.0

  -- ---- a row looked up

  pub found_left : (n : ℕ) (l : List A) (x : A) (r : List A) → Rises key (l ++ x ∷ r) → n < key x → row_at key n l ≡ row_at key n (l ++ x ∷ r)
  found_left n [] x r h lt =
      sym (row_behind key n x r (λ e. absurd (omega (arith, lt))) ∙ above_none key n r (above_lower key n (key x) r (omega (arith, lt)) h.0))
  found_left n (y ∷ l) x r h lt = ⊎_elim
      (λ (e : key y ≡ n). row_here key n y l e ∙ sym (row_here key n y (l ++ x ∷ r) e))
      (λ (e : key y ≡ n → ⊥). row_behind key n y l e ∙ found_left n l x r h.1 lt ∙ sym (row_behind key n y (l ++ x ∷ r) e))
      (cases_eq (key y) n)

  pub found_right : (n : ℕ) (l : List A) (x : A) (r : List A) → Rises key (l ++ x ∷ r) → key x < n → row_at key n r ≡ row_at key n (l ++ x ∷ r)
  found_right n [] x r h lt = sym (row_behind key n x r (λ e. absurd (omega (arith, lt, e))))
  found_right n (y ∷ l) x r h lt =
      let before : key y < key x = above_right (key y) l x r h.0 in
      found_right n l x r h.1 lt ∙ sym (row_behind key n y (l ++ x ∷ r) (λ e. absurd (omega (arith, lt, before, e))))

  pub found_here : (n : ℕ) (l : List A) (x : A) (r : List A) → Rises key (l ++ x ∷ r) → key x ≡ n → Some x ≡ row_at key n (l ++ x ∷ r)
  found_here n [] x r h e = sym (row_here key n x r e)
  found_here n (y ∷ l) x r h e =
      let before : key y < key x = above_right (key y) l x r h.0 in
      found_here n l x r h.1 e ∙ sym (row_behind key n y (l ++ x ∷ r) (λ f. absurd (omega (arith, before, e, f))))

  -- ---- a row taken out

  pub without_left : (n : ℕ) (l : List A) (x : A) (r : List A) → Rises key (l ++ x ∷ r) → n < key x → without key n l ++ x ∷ r ≡ without key n (l ++ x ∷ r)
  without_left n [] x r h lt =
      sym (without_behind key n x r (λ e. absurd (omega (arith, lt, e))) ∙ ap (λ (s : List A). x ∷ s) (same_above n r (above_lower key n (key x) r (omega (arith, lt)) h.0)))
  without_left n (y ∷ l) x r h lt = ⊎_elim
      (λ (e : key y ≡ n). ap (λ (s : List A). s ++ x ∷ r) (without_here key n y l e) ∙ without_left n l x r h.1 lt ∙ sym (without_here key n y (l ++ x ∷ r) e))
      (λ (e : key y ≡ n → ⊥).
      ap (λ (s : List A). s ++ x ∷ r) (without_behind key n y l e) ∙ ap (λ (s : List A). y ∷ s) (without_left n l x r h.1 lt) ∙ sym (without_behind key n y (l ++ x ∷ r) e))
      (cases_eq (key y) n)

  pub without_right : (n : ℕ) (l : List A) (x : A) (r : List A) → Rises key (l ++ x ∷ r) → key x < n → l ++ x ∷ without key n r ≡ without key n (l ++ x ∷ r)
  without_right n [] x r h lt = sym (without_behind key n x r (λ e. absurd (omega (arith, lt, e))))
  without_right n (y ∷ l) x r h lt =
      let before : key y < key x = above_right (key y) l x r h.0 in
      ap (λ (s : List A). y ∷ s) (without_right n l x r h.1 lt) ∙ sym (without_behind key n y (l ++ x ∷ r) (λ e. absurd (omega (arith, lt, before, e))))

  pub without_root : (n : ℕ) (l : List A) (x : A) (r : List A) → Rises key (l ++ x ∷ r) → key x ≡ n → l ++ r ≡ without key n (l ++ x ∷ r)
  without_root n [] x r h e = sym (without_here key n x r e ∙ same_above n r (subst (λ (k : ℕ). AllAbove key k r) e h.0))
  without_root n (y ∷ l) x r h e =
      let before : key y < key x = above_right (key y) l x r h.0 in
      ap (λ (s : List A). y ∷ s) (without_root n l x r h.1 e) ∙ sym (without_behind key n y (l ++ x ∷ r) (λ f. absurd (omega (arith, before, e, f))))

  -- ---- a row put

  insert_left : (z : A) (l : List A) (x : A) (r : List A) → key z < key x → insert key z l ++ x ∷ r ≡ insert key z (l ++ x ∷ r)
  insert_left z [] x r lt = sym (insert_here key z x r lt)
  insert_left z (y ∷ l) x r lt = ⊎_elim
      (λ (e : key z < key y). ap (λ (s : List A). s ++ x ∷ r) (insert_here key z y l e) ∙ sym (insert_here key z y (l ++ x ∷ r) e))
      (λ (e : key y ≤ key z).
      ap (λ (s : List A). s ++ x ∷ r) (insert_behind key z y l e) ∙ ap (λ (s : List A). y ∷ s) (insert_left z l x r lt) ∙ sym (insert_behind key z y (l ++ x ∷ r) e))
      (cases_lt (key z) (key y))

  insert_right : (z : A) (l : List A) (x : A) (r : List A) → AllBelow (key x) l → key x < key z → l ++ x ∷ insert key z r ≡ insert key z (l ++ x ∷ r)
  insert_right z [] x r below lt = sym (insert_behind key z x r (omega (arith, lt)))
  insert_right z (y ∷ l) x r below lt =
      ap (λ (s : List A). y ∷ s) (insert_right z l x r below.1 lt) ∙ sym (insert_behind key z y (l ++ x ∷ r) (omega (arith, lt, below.0)))

  pub put_left : (z : A) (l : List A) (x : A) (r : List A) → Rises key (l ++ x ∷ r) → key z < key x → put key z l ++ x ∷ r ≡ put key z (l ++ x ∷ r)
  put_left z l x r h lt = insert_left z (without key (key z) l) x r lt ∙ ap (λ (s : List A). insert key z s) (without_left (key z) l x r h lt)

  pub put_right : (z : A) (l : List A) (x : A) (r : List A) → Rises key (l ++ x ∷ r) → key x < key z → l ++ x ∷ put key z r ≡ put key z (l ++ x ∷ r)
  put_right z l x r h lt =
      insert_right z l x (without key (key z) r) (below_before l x r h) lt ∙ ap (λ (s : List A). insert key z s) (without_right (key z) l x r h lt)

  insert_root : (z : A) (l r : List A) → AllBelow (key z) l → AllAbove key (key z) r → l ++ z ∷ r ≡ insert key z (l ++ r)
  insert_root z [] r below above = sym (insert_above z r above)
  insert_root z (y ∷ l) r below above =
      ap (λ (s : List A). y ∷ s) (insert_root z l r below.1 above) ∙ sym (insert_behind key z y (l ++ r) (omega (arith, below.0)))

  pub put_root : (z : A) (l : List A) (x : A) (r : List A) → Rises key (l ++ x ∷ r) → key x ≡ key z → l ++ z ∷ r ≡ put key z (l ++ x ∷ r)
  put_root z l x r h e =
      insert_root z l r (subst (λ (k : ℕ). AllBelow k l) e (below_before l x r h)) (subst (λ (k : ℕ). AllAbove key k r) e (above_behind l x r h))
      ∙ ap (λ (s : List A). insert key z s) (without_root (key z) l x r h e)

  -- ---- a row changed

  pub changed_left : (c : Change A) (l : List A) (x : A) (r : List A) → Rises key (l ++ x ∷ r) → change_key key c < key x → applied key c l ++ x ∷ r ≡ applied key c (l ++ x ∷ r)
  changed_left (Put z) l x r h lt = put_left z l x r h lt
  changed_left (Remove n) l x r h lt = without_left n l x r h lt

  pub changed_right : (c : Change A) (l : List A) (x : A) (r : List A) → Rises key (l ++ x ∷ r) → key x < change_key key c → l ++ x ∷ applied key c r ≡ applied key c (l ++ x ∷ r)
  changed_right (Put z) l x r h lt = put_right z l x r h lt
  changed_right (Remove n) l x r h lt = without_right n l x r h lt

  pub changed_root : (c : Change A) (l : List A) (x : A) (r : List A) → Rises key (l ++ x ∷ r) → key x ≡ change_key key c → l ++ before_all (change_row c) r ≡ applied key c (l ++ x ∷ r)
  changed_root (Put z) l x r h e = put_root z l x r h e
  changed_root (Remove n) l x r h e = without_root n l x r h e

  pub changed_none : (c : Change A) → before_all (change_row c) [] ≡ applied key c []
  changed_none (Put z) = refl
  changed_none (Remove n) = refl

-- ---- the first row that passes a test

module _ {A : Type 0} (test : A → Bool) where
  pub first_left : (a : A) (l : List A) (x : A) (r : List A) → first_such test l ≡ Some a → Some a ≡ first_such test (l ++ x ∷ r)
  first_left a [] x r e = absurd cc
  first_left a (y ∷ l) x r e = ⊎_elim
      (λ (t : test y ≡ true). sym e ∙ cond-true (test y) (Some y) (first_such test l) t ∙ sym (cond-true (test y) (Some y) (first_such test (l ++ x ∷ r)) t))
      (λ (t : test y ≡ false).
      first_left a l x r (sym (cond-false (test y) (Some y) (first_such test l) t) ∙ e) ∙ sym (cond-false (test y) (Some y) (first_such test (l ++ x ∷ r)) t))
      (cases_Bool (test y))

  pub first_right : (l : List A) (x : A) (r : List A) → first_such test l ≡ None → first_such test (x ∷ r) ≡ first_such test (l ++ x ∷ r)
  first_right [] x r e = refl
  first_right (y ∷ l) x r e = ⊎_elim
      (λ (t : test y ≡ true). let bad : None ≡ Some y = sym e ∙ cond-true (test y) (Some y) (first_such test l) t in absurd cc)
      (λ (t : test y ≡ false).
      first_right l x r (sym (cond-false (test y) (Some y) (first_such test l) t) ∙ e) ∙ sym (cond-false (test y) (Some y) (first_such test (l ++ x ∷ r)) t))
      (cases_Bool (test y))

  -- where none passes
  pub none_such : (xs : List A) → AllByRecursion (λ x. test x ≡ false) xs → first_such test xs ≡ None
  none_such [] h = refl
  none_such (x ∷ xs) h = cond-false (test x) (Some x) (first_such test xs) h.0 ∙ none_such xs h.1

-- ---- the same of rows that are those of both sides and the row between them

module _ {A : Type 0} (key : A → ℕ) (rows l : List A) (x : A) (r : List A) (e : rows ≡ l ++ x ∷ r) (rises : Rises key rows) where
  rise : Rises key (l ++ x ∷ r)
  rise = subst (λ (s : List A). Rises key s) e rises

  pub find_left : (n : ℕ) (o : Option A) → n < key x → (Rises key l → o ≡ row_at key n l) → o ≡ row_at key n rows
  find_left n o lt found = found (rises_left key l x r rise) ∙ found_left key n l x r rise lt ∙ ap (λ (s : List A). row_at key n s) (sym e)

  pub find_right : (n : ℕ) (o : Option A) → key x < n → (Rises key r → o ≡ row_at key n r) → o ≡ row_at key n rows
  find_right n o lt found = found (rises_right key l x r rise) ∙ found_right key n l x r rise lt ∙ ap (λ (s : List A). row_at key n s) (sym e)

  pub find_here : (n : ℕ) → key x ≡ n → Some x ≡ row_at key n rows
  find_here n same = found_here key n l x r rise same ∙ ap (λ (s : List A). row_at key n s) (sym e)

  pub with_left : (c : Change A) (m after : List A) → change_key key c < key x → (Rises key l → m ≡ applied key c l) → after ≡ m ++ x ∷ r → after ≡ applied key c rows
  with_left c m after lt made is = is ∙ ap (λ (s : List A). s ++ x ∷ r) (made (rises_left key l x r rise)) ∙ changed_left key c l x r rise lt ∙ ap (λ (s : List A). applied key c s) (sym e)

  pub with_right : (c : Change A) (m after : List A) → key x < change_key key c → (Rises key r → m ≡ applied key c r) → after ≡ l ++ x ∷ m → after ≡ applied key c rows
  with_right c m after lt made is = is ∙ ap (λ (s : List A). l ++ x ∷ s) (made (rises_right key l x r rise)) ∙ changed_right key c l x r rise lt ∙ ap (λ (s : List A). applied key c s) (sym e)

  pub with_root : (c : Change A) (after : List A) → key x ≡ change_key key c → after ≡ l ++ before_all (change_row c) r → after ≡ applied key c rows
  with_root c after same is = is ∙ changed_root key c l x r rise same ∙ ap (λ (s : List A). applied key c s) (sym e)

-- ---- the first row that passes, from a key on

-- all keys before it are lower
all_lower : {A : Type 0} (key : A → ℕ) (test : A → Bool) (n : ℕ) (xs : List A) → AllBelow key n xs → ((x : A) → key x < n → test x ≡ false) → AllByRecursion (λ x. test x ≡ false) xs
all_lower key test n [] below fails = tt
all_lower key test n (x ∷ xs) below fails = (fails x below.0, all_lower key test n xs below.1 fails)

module _ {A : Type 0} (key : A → ℕ) (test : A → Bool) (rows l : List A) (x : A) (r : List A) (e : rows ≡ l ++ x ∷ r) (rises : Rises key rows) where
  rise_all : Rises key (l ++ x ∷ r)
  rise_all = subst (λ (s : List A). Rises key s) e rises

  -- the row between comes before the first key
  pub such_behind : (first : ℕ) (o : Option A) → key x < first → ((y : A) → key y < first → test y ≡ false) → (Rises key r → o ≡ first_such test r) → o ≡ first_such test rows
  such_behind first o lt fails found =
      found (rises_right key l x r rise_all)
      ∙ sym (cond-false (test x) (Some x) (first_such test r) (fails x lt))
      ∙ first_right test l x r (none_such test l (all_lower key test (key x) l (below_before key l x r rise_all) (λ y below. fails y (omega (arith, below, lt)))))
      ∙ ap (λ (s : List A). first_such test s) (sym e)

  pub such_left : (a : A) (o : Option A) → o ≡ Some a → (Rises key l → o ≡ first_such test l) → Some a ≡ first_such test rows
  such_left a o is found = first_left test a l x r (sym (found (rises_left key l x r rise_all)) ∙ is) ∙ ap (λ (s : List A). first_such test s) (sym e)

  pub such_here : (o : Option A) → o ≡ None → (Rises key l → o ≡ first_such test l) → test x ≡ true → Some x ≡ first_such test rows
  such_here o is found passes =
      sym (cond-true (test x) (Some x) (first_such test r) passes)
      ∙ first_right test l x r (sym (found (rises_left key l x r rise_all)) ∙ is) ∙ ap (λ (s : List A). first_such test s) (sym e)

  pub such_right : (o p : Option A) → o ≡ None → (Rises key l → o ≡ first_such test l) → test x ≡ false → (Rises key r → p ≡ first_such test r) → p ≡ first_such test rows
  such_right o p is found fails after =
      after (rises_right key l x r rise_all) ∙ sym (cond-false (test x) (Some x) (first_such test r) fails)
      ∙ first_right test l x r (sym (found (rises_left key l x r rise_all)) ∙ is) ∙ ap (λ (s : List A). first_such test s) (sym e)

-- ---- tests

none_within : (bound : Bound) (now a b m : ℕ) → has_none bound now a b ≡ true → a ≤ m → m ≤ b → is_within bound now m ≡ false
none_within Past now a b m none low high = let later : now < a = ltb-true now a none in lt-leb m now (omega (arith, later, low))
none_within Ahead now a b m none low high = let come : b ≤ now = leb-true b now none in le-ltb now m (omega (arith, come, high))

module _ {A : Type 0} (key moment : A → ℕ) (bound : Bound) (first now : ℕ) where
  pub from_behind : (x : A) → key x < first → is_from key moment bound first now x ≡ false
  from_behind x lt = cond-false (nat_le first (key x)) (is_within bound now (moment x)) false (lt-leb first (key x) lt)

  pub from_is : (x : A) → first ≤ key x → is_within bound now (moment x) ≡ true → is_from key moment bound first now x ≡ true
  from_is x le within = cond-true (nat_le first (key x)) (is_within bound now (moment x)) false (le-leb first (key x) le) ∙ within

  pub from_not : (x : A) → is_within bound now (moment x) ≡ false → is_from key moment bound first now x ≡ false
  from_not x other = ⊎_elim
      (λ (t : nat_le first (key x) ≡ true). cond-true (nat_le first (key x)) (is_within bound now (moment x)) false t ∙ other)
      (λ (t : nat_le first (key x) ≡ false). cond-false (nat_le first (key x)) (is_within bound now (moment x)) false t)
      (cases_Bool (nat_le first (key x)))

  -- where none of the moments is within
  all_not : (a b : ℕ) (xs : List A) → has_none bound now a b ≡ true → AreBetween moment a b xs → AllByRecursion (λ x. is_from key moment bound first now x ≡ false) xs
  all_not a b [] none h = tt
  all_not a b (x ∷ xs) none h = (from_not x (none_within bound now a b (moment x) none h.0.0 h.0.1), all_not a b xs none h.1)

  pub none_from : (a b : ℕ) (xs : List A) → has_none bound now a b ≡ true → AreBetween moment a b xs → None ≡ first_such (is_from key moment bound first now) xs
  none_from a b xs none h = sym (none_such (is_from key moment bound first now) xs (all_not a b xs none h))
