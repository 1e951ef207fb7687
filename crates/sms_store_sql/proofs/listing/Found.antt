-- What a load reads.
use Rattle.std.proofs.Common.{◌≡◌, ◌⊎◌, inl, inr, ℕ, zero, suc, ℤ, ◌+◌, ◌<◌, List, [], ◌∷◌, ◌++◌, map, take, length, get_or, slice_get, true, None, Some, Option, refl, sym, ap, ap₂, subst, ◌∙◌, arith, IsPermutation, Less}
use Rattle.std.specs.List.{AllByRecursion}
use Rattle.std.specs.List.Sorted.{IsSortedByKey}
use Rattle.std.specs.Ordering.{nat_cmp, on}
use Rattle.std.specs.Cmp.{nat_cmp_total}
use Rattle.std.proofs.lemmas.Cmp.{on_total}
use Rattle.std.proofs.lemmas.Bool.Decides.{nat_tests}
use Rattle.std.proofs.lemmas.List.Elements.{All-from_recursion}
use Rattle.std.proofs.lemmas.List.{take_more, length-map, get_or-map}
use Rattle.std.proofs.lemmas.List.Sorted.{IsPermutation-map, IsPermutation-refl, IsPermutation-cons, IsPermutation-trans, IsPermutation-middle, IsPermutation-sym}
use Rattle.sqlite.specs.declared.types.Value.TheVariants.{Null}
use Rattle.sqlite.specs.declared.error.Error.{Error}
use Rattle.sqlite.specs.Order.{Row}
use Rattle.sqlite.specs.Query.{IsAnswer, output, Output}
use Rattle.sqlite.specs.Program.{overlay}
use Rattle.sqlite_schema.specs.declared.command.Returning.{Returning}
use Rattle.sqlite.specs.Listing.{understood}
use Rattle.sqlite.specs.State.{State, Shown, ShowsRows, FailsToQuery, FailsToShow, IsNotRun, IsTooLate, IsUnchanged, IsRolledBack, KeepsCommit}
use Rattle.sqlite.specs.Clock.{timed}
use Rattle.sqlite.proofs.Callers.{IsPlain, reads_as}
use Rattle.sqlite_trees.specs.Tree.{IsAscending}
use Rattle.sqlite_typed.proofs.AnswerLemmas.{last_table, at_end, matches_are}
use Rattle.sqlite_keyed.proofs.ListLemmas.{map-map, filter_all, all_of, along_permutation, all_weaker}
use Rattle.sqlite_keyed.proofs.SortLemmas.{sorted_unique}
use Rattle.sms_rows.specs.table.Table.{Rises}
use Rattle.sms_store_sql.specs.listing.Listing.{ListOf, IsList, Represents, with_rowid, whole_table}

-- ---- lists

-- a permutation of the images is the images of a permutation
pub mapped_back : {A B : Type 0} (f : A → B) (bs cs : List B) → IsPermutation bs cs → (xs : List A) → bs ≡ map f xs → (ds : List A) × (cs ≡ map f ds) × IsPermutation xs ds
mapped_back {A} {B} f = along_permutation (λ bs cs. (xs : List A) → bs ≡ map f xs → (ds : List A) × (cs ≡ map f ds) × IsPermutation xs ds) same skip turn chain
  where
    same : (bs : List B) (xs : List A) → bs ≡ map f xs → (ds : List A) × (bs ≡ map f ds) × IsPermutation xs ds
    same bs xs e = (xs, e, IsPermutation-refl xs)

    skip : (b : B) (bs cs : List B) → ((xs : List A) → bs ≡ map f xs → (ds : List A) × (cs ≡ map f ds) × IsPermutation xs ds)
        → (xs : List A) → b ∷ bs ≡ map f xs → (ds : List A) × (b ∷ cs ≡ map f ds) × IsPermutation xs ds
    skip b bs cs h [] e = absurd cc
    skip b bs cs h (x ∷ xs) e = let r = h xs cc in let first : b ≡ f x = cc in (x ∷ r.0, ap₂ (λ y l. y ∷ l) first r.1, IsPermutation-cons x _ _ r.2)

    turn : (b c : B) (bs : List B) (xs : List A) → b ∷ c ∷ bs ≡ map f xs → (ds : List A) × (c ∷ b ∷ bs ≡ map f ds) × IsPermutation xs ds
    turn b c bs [] e = absurd cc
    turn b c bs (x ∷ []) e = absurd cc
    turn b c bs (x ∷ y ∷ xs) e =
        let first : b ≡ f x = cc in
        let second : c ≡ f y = cc in
        let others : bs ≡ map f xs = cc in
        (y ∷ x ∷ xs, rw (first, second, others), IsPermutation-middle (x ∷ []) y xs)

    chain : (bs cs es : List B) → ((xs : List A) → bs ≡ map f xs → (ds : List A) × (cs ≡ map f ds) × IsPermutation xs ds)
        → ((xs : List A) → cs ≡ map f xs → (ds : List A) × (es ≡ map f ds) × IsPermutation xs ds)
        → (xs : List A) → bs ≡ map f xs → (ds : List A) × (es ≡ map f ds) × IsPermutation xs ds
    chain bs cs es p q xs e = let r = p xs e in let s = q r.0 r.1 in (s.0, s.1, IsPermutation-trans _ _ _ r.2 s.2)

-- what holds of each of some rows holds of them in any order
pub all_permuted : {X : Type 0} (P : X → Type 0) (xs ys : List X) → IsPermutation xs ys → AllByRecursion P xs → AllByRecursion P ys
all_permuted P = along_permutation (λ xs ys. AllByRecursion P xs → AllByRecursion P ys) (λ xs h. h) (λ x xs ys p h. (h.0, p h.1)) (λ x y xs h. (h.1.0, (h.0, h.1.1))) (λ xs ys zs p q h. q (p h))

-- what a loop that reads the rows one after another has so far
pub more_seen : {X R : Type 0} (write : X → R) (P : X → Type 0) (rows : List R) (seen : List X) (i : ℕ) (r : R) (x : X) (items : List X) → i < length rows → r ≡ get_or rows i r
    → AllByRecursion P seen → rows ≡ map write seen → ((s : X) → P s → r ≡ write s → x ≡ s) → items ≡ take i seen → items ++ x ∷ [] ≡ take (i + 1) seen
more_seen write P rows seen i r x items low item fit is made before =
    let len : length rows ≡ length seen = ap length is ∙ length-map _ _ in
    let inside : i < length seen = omega (arith, low, len) in
    let here : r ≡ write (get_or seen i x) = item ∙ ap (λ l. get_or l i r) is ∙ get_or-map write seen i x r inside in
    rw (take_more seen i x inside) (ap₂ (λ a b. a ++ b ∷ []) before (made _ (All-from_recursion P seen fit i x inside) here))

-- each of the rows is one of those that were written
pub seen_at : {X R : Type 0} (write : X → R) (P : X → Type 0) (seen : List X) (i : ℕ) (r : R) → i < length (map write seen) → r ≡ get_or (map write seen) i r
    → AllByRecursion P seen → (s : X) × P s × (r ≡ write s)
seen_at write P [] i r low item fit = absurd (omega (arith, low))
seen_at write P (s ∷ ss) zero r low item fit = (s, fit.0, item)
seen_at write P (s ∷ ss) (suc i) r low item fit = seen_at write P ss i r (omega (arith, low)) item fit.1

pub first_seen : {X R : Type 0} (write : X → R) (P : X → Type 0) (seen : List X) (rows : List R) (r : R) → slice_get rows 0 ≡ Some r → AllByRecursion P seen
    → rows ≡ map write seen → (s : X) × P s × (r ≡ write s)
first_seen write P [] rows r first fit is = absurd (let none = ap (λ l. slice_get l 0) (sym is) ∙ first in cc)
first_seen write P (s ∷ ss) rows r first fit is = (s, fit.0, let same = sym first ∙ ap (λ l. slice_get l 0) is in cc)

-- rows in the order of their keys are one list
pub ordered_once : {X : Type 0} (key : X → ℕ) (xs ys : List X) → IsPermutation xs ys → Rises key xs → IsSortedByKey key nat_cmp ys → ys ≡ xs
ordered_once {X} key xs ys same rises sorted = sorted_unique (on key nat_cmp) (on_total key nat_cmp_total) xs ys (ascends xs rises) same sorted
  where
    lower : (a b : ℕ) → a < b → nat_cmp a b ≡ Less
    lower a b h = grind (arith, nat_tests, h)

    ascends : (zs : List X) → Rises key zs → IsAscending (λ a b. on key nat_cmp a b ≡ Less) zs
    ascends [] h = tt
    ascends (z ∷ zs) h = (all_weaker (λ y. key z < key y) (λ y. on key nat_cmp z y ≡ Less) (λ y. lower (key z) (key y)) zs h.0, ascends zs h.1)

pub sorted_is : {X : Type 0} (key : X → ℕ) (rows sorted xs : List X) → IsPermutation rows sorted → IsSortedByKey key nat_cmp sorted → IsPermutation rows xs → Rises key xs → sorted ≡ xs
sorted_is key rows sorted xs same order wanted rises = ordered_once key xs sorted (IsPermutation-trans _ _ _ (IsPermutation-sym _ _ wanted) same) rises order

-- ---- why a query fails

pub fails_quietly : (sql : List ℕ) (params : Row) (old new : State) (e : Error) → FailsToQuery sql params old new e → IsUnchanged old new ⊎ IsRolledBack old new
unfolding FailsToQuery IsNotRun
fails_quietly sql params old new e (inl (inl h)) = inl h.1
fails_quietly sql params old new e (inl (inr h)) = inr h.3
fails_quietly sql params old new e (inr h) = go h.0.returning h.2
  where
    go : (o : Option Returning) → FailsToShow old new sql h.0 (timed params h.0.formats h.1.now) e o → IsUnchanged old new ⊎ IsRolledBack old new
    go None k = inl k.3
    go (Some what) (inl k) = inl k.1
    go (Some what) (inr k) = inr k.3

pub keeps_if : (old new : State) → IsUnchanged old new ⊎ IsRolledBack old new → KeepsCommit old new
keeps_if old new (inl h) = record { was_open = λ _. h.0.was_open; committed = λ _. h.0.committed_is }
keeps_if old new (inr h) = record { was_open = h.was_open; committed = λ live. (h.undone live).1 }

pub keeps_if_refused : (sql : List ℕ) (params : Row) (old new : State) (e : Error) → FailsToQuery sql params old new e ⊎ IsTooLate sql params old new e → KeepsCommit old new
keeps_if_refused sql params old new e (inl h) = keeps_if old new (fails_quietly sql params old new e h)
keeps_if_refused sql params old new e (inr h) = keeps_if old new (inl h.5)

pub shown_unchanged : (sql : List ℕ) (params : Row) (old new : State) (rows : List Row) → IsPlain (understood old.now.schema sql) → Shown sql params old new rows → IsUnchanged old new
unfolding Shown
shown_unchanged sql params old new rows plain h =
    let bare = subst IsPlain h.1.is plain in
    (subst (ShowsRows old new sql h.0 (timed params h.0.formats h.1.now) rows) bare.0 h.2).3

-- ---- the rows of a list

pub finds : {X : Type 0} (l : ListOf X) (is : IsList l) (old new : State) (rows : List Row) → old.now.schema ≡ l.table.schema → Shown l.table.select [] old new rows
    → (xs : List X) → Represents l (old.now.trees l.table.tree) xs → (ps : List X) × (rows ≡ map l.columns ps) × IsPermutation xs ps × AllByRecursion l.Fits ps
finds {X} l is old new rows has h xs held =
    let t = l.table in
    let q = whole_table t.tree t.projected in
    let db = overlay old.now.trees [] in
    let read = reads_as t.select [] old new t.schema has _ is.selects is.selects_alone is.is_no_listing rows h in
    let a : IsAnswer q db [] rows = read.answer Null in
    let stored = is.own_tree old.now.trees ∙ held.stored in
    let source = last_table db t.tree (with_rowid l.columns) (λ (e : ℤ × X). e.0) held.entries stored held.keyed (at_end db) in
    let env = λ (e : ℤ × X). [] ∷ with_rowid l.columns e ∷ [] in
    let out = λ (e : ℤ × X). output q (env e) in
    let value = λ (e : ℤ × X). e.1 in
    let everyone = filter_all (λ (e : ℤ × X). true) held.entries (all_of _ (λ _. refl) held.entries) in
    let staged : a.staged ≡ map env held.entries = a.grouped ∙ matches_are q db [] source (λ _. true) (λ _. refl) ∙ ap (map env) everyone in
    let kept : a.kept ≡ map out held.entries = a.distinct ∙ ap (map (output q)) staged ∙ map-map (output q) env held.entries in
    let back = mapped_back out a.kept a.ordered a.same held.entries kept in
    let same = IsPermutation-map value held.entries back.0 back.2 in (
      map value back.0,
      a.shown ∙ ap (map (λ (o : Output). o.1)) back.1 ∙ map-map _ out back.0 ∙ each back.0 ∙ sym (map-map l.columns value back.0),
      IsPermutation-trans _ _ _ (turned held.listed) same,
      all_permuted l.Fits _ _ same held.fit,
    )
  where
    each : (es : List (ℤ × X)) → map (λ (e : ℤ × X). Rattle.sqlite_sql.specs.Term.eval_all l.table.projected ([] ∷ with_rowid l.columns e ∷ [])) es ≡ map (λ (e : ℤ × X). l.columns e.1) es
    each [] = refl
    each (e ∷ es) = ap₂ (λ a b. a ∷ b) (is.read e.0 e.1) (each es)

    turned : {ys zs : List X} → IsPermutation ys zs → IsPermutation zs ys
    turned p = IsPermutation-sym _ _ p

-- equal keys rise alike
pub rises_by : {X : Type 0} (key other : X → ℕ) → ((x : X) → key x ≡ other x) → (xs : List X) → Rises key xs → Rises other xs
rises_by {X} key other same [] h = tt
rises_by {X} key other same (x ∷ xs) h = (above xs h.0, rises_by key other same xs h.1)
  where
    above : (ys : List X) → AllByRecursion (λ y. key x < key y) ys → AllByRecursion (λ y. other x < other y) ys
    above ys all = all_weaker (λ y. key x < key y) (λ y. other x < other y) (λ y low. rw (← same x, ← same y) low) ys all
