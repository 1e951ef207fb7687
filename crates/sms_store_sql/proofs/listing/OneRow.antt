-- What a query for a key reads.
use Rattle.std.proofs.Common.{◌≡◌, ℕ, ℤ, ◌<◌, ◌≤◌, ◌==◌, List, [], ◌∷◌, map, filter, length, Bool, true, false, cond, Some, refl, sym, ap, ap₂, subst, ◌∙◌, arith, IsPermutation}
use Rattle.std.specs.List.{AllByRecursion, list_all}
use Rattle.std.proofs.lemmas.Bool.Decides.{nat_tests}
use Rattle.std.proofs.lemmas.List.Sorted.{IsPermutation-map, IsPermutation-trans, IsPermutation-sym}
use Rattle.sqlite.specs.declared.types.Value.TheVariants.{Null}
use Rattle.sqlite.specs.Order.{Row}
use Rattle.sqlite.specs.Query.{IsAnswer, output, Output}
use Rattle.sqlite.specs.Program.{overlay}
use Rattle.sqlite.specs.Term.{holds}
use Rattle.sqlite.specs.State.{State, Shown}
use Rattle.sqlite.proofs.Callers.{reads_as}
use Rattle.sqlite_typed.proofs.AnswerLemmas.{last_table, at_end, matches_are}
use Rattle.sqlite_keyed.proofs.ListLemmas.{map-map, along_permutation, IsPermutation-filter}
use Rattle.sms_rows.specs.table.Table.{Rises, row_at}
use Rattle.sms_store_sql.specs.listing.Listing.{rows_where, ListOf, IsList, Represents, with_rowid}
use Rattle.sms_store_sql.specs.listing.Finding.{FindsOne, first_of}
use Rattle.sms_store_sql.proofs.listing.Found.{mapped_back, all_permuted}
use Rattle.sms_store_sql.proofs.listing.Perms.{all_mapped}

-- ---- lists

-- one element, or none, stands in one order
pub same_few : {X : Type 0} (xs ys : List X) → IsPermutation xs ys → length xs ≤ 1 → ys ≡ xs
same_few {X} = along_permutation (λ xs ys. length xs ≤ 1 → ys ≡ xs) (λ xs few. refl) skip turn chain
  where
    skip : (x : X) (xs ys : List X) → (length xs ≤ 1 → ys ≡ xs) → length (x ∷ xs) ≤ 1 → x ∷ ys ≡ x ∷ xs
    skip x xs ys h few = ap (λ l. x ∷ l) (h (omega (arith, few)))

    turn : (x y : X) (xs : List X) → length (x ∷ y ∷ xs) ≤ 1 → y ∷ x ∷ xs ≡ x ∷ y ∷ xs
    turn x y xs few = absurd (omega (arith, few))

    chain : (xs ys zs : List X) → (length xs ≤ 1 → ys ≡ xs) → (length ys ≤ 1 → zs ≡ ys) → length xs ≤ 1 → zs ≡ xs
    chain xs ys zs p q few = let same = p few in q (subst (λ l. length l ≤ 1) (sym same) few) ∙ same

module _ {X : Type 0} (key : X → ℕ) (n : ℕ) where
  abbrev pub has : X → Bool
  has x = key x == n

  pub first_is : (xs : List X) → first_of (filter has xs) ≡ row_at key n xs
  first_is [] = refl
  first_is (x ∷ xs) = elim (key x == n) as (λ b. first_of (cond b (x ∷ filter has xs) (filter has xs)) ≡ cond b (Some x) (row_at key n xs)) [ true ↦ refl | false ↦ first_is xs ]

  pub none_above : (ys : List X) → AllByRecursion (λ y. n < key y) ys → filter has ys ≡ []
  none_above [] h = refl
  none_above (y ∷ ys) h = go (none_above ys h.1) (key y == n) refl
    where
      differs : (a b : ℕ) → b < a → (a == b) ≡ false
      differs a b low = grind (arith, nat_tests, low)

      go : filter has ys ≡ [] → (b : Bool) → (key y == n) ≡ b → cond b (y ∷ filter has ys) (filter has ys) ≡ []
      go rest true e = absurd (let d = differs (key y) n h.0 in let both : true ≡ false = sym e ∙ d in cc)
      go rest false e = rest

  pub at_most_one : (xs : List X) → Rises key xs → length (filter has xs) ≤ 1
  at_most_one [] h = omega arith
  at_most_one (x ∷ xs) h = go (at_most_one xs h.1) (key x == n) refl
    where
      equal : (a b : ℕ) → (a == b) ≡ true → a ≡ b
      equal a b e = grind (arith, nat_tests, e)

      go : length (filter has xs) ≤ 1 → (b : Bool) → (key x == n) ≡ b → length (cond b (x ∷ filter has xs) (filter has xs)) ≤ 1
      go later true e = subst (λ l. length (x ∷ l) ≤ 1) (sym (none_above xs (subst (λ k. AllByRecursion (λ y. k < key y) xs) (equal (key x) n e) h.0))) (omega arith)
      go later false e = later

  pub all_having : (P : X → Type 0) (xs : List X) → AllByRecursion P xs → AllByRecursion P (filter has xs)
  all_having P [] h = tt
  all_having P (x ∷ xs) h = elim (key x == n) as (λ b. AllByRecursion P (cond b (x ∷ filter has xs) (filter has xs))) [ true ↦ (h.0, all_having P xs h.1) | false ↦ all_having P xs h.1 ]

  pub kept_values : (p : ℤ × X → Bool) (es : List (ℤ × X)) → AllByRecursion (λ (e : ℤ × X). p e ≡ has e.1) es → map (λ (e : ℤ × X). e.1) (filter p es) ≡ filter has (map (λ (e : ℤ × X). e.1) es)
  kept_values p [] h = refl
  kept_values p (e ∷ es) h = go (p e) (has e.1) h.0 (kept_values p es h.1)
    where
      go : (a b : Bool) → a ≡ b → map (λ (f : ℤ × X). f.1) (filter p es) ≡ filter has (map (λ (f : ℤ × X). f.1) es)
          → map (λ (f : ℤ × X). f.1) (cond a (e ∷ filter p es) (filter p es)) ≡ cond b (e.1 ∷ filter has (map (λ (f : ℤ × X). f.1) es)) (filter has (map (λ (f : ℤ × X). f.1) es))
      go true true s more = ap (λ l. e.1 ∷ l) more
      go false false s more = more
      go true false s more = absurd cc
      go false true s more = absurd cc

-- ---- the row of a key

pub finds_row : {X : Type 0} (l : ListOf X) (is : IsList l) (text : List ℕ) (one : FindsOne l text) (n : ℕ) (old new : State) (rows : List Row) → old.now.schema ≡ l.table.schema
    → Shown text (l.key_columns n) old new rows → (xs : List X) → Represents l (old.now.trees l.table.tree) xs → (ps : List X) × (rows ≡ map l.columns ps) × (first_of ps ≡ row_at l.key n xs) × AllByRecursion l.Fits ps
finds_row {X} l is text one n old new rows ours h xs held =
    let t = l.table in
    let params = l.key_columns n in
    let q = rows_where t.tree t.tests t.projected in
    let db = overlay old.now.trees [] in
    let read = reads_as text params old new t.schema ours _ one.selects one.alone one.is_no_listing rows h in
    let a : IsAnswer q db params rows = read.answer Null in
    let stored = is.own_tree old.now.trees ∙ held.stored in
    let source = last_table db t.tree (with_rowid l.columns) (λ (e : ℤ × X). e.0) held.entries stored held.keyed (at_end db) in
    let passes = λ (e : ℤ × X). list_all (holds (params ∷ with_rowid l.columns e ∷ [])) t.tests in
    let mine = filter passes held.entries in
    let env = λ (e : ℤ × X). params ∷ with_rowid l.columns e ∷ [] in
    let out = λ (e : ℤ × X). output q (env e) in
    let value = λ (e : ℤ × X). e.1 in
    let staged : a.staged ≡ map env mine = a.grouped ∙ matches_are q db params source passes (λ e. refl) in
    let kept : a.kept ≡ map out mine = a.distinct ∙ ap (map (output q)) staged ∙ map-map (output q) env mine in
    let back = mapped_back out a.kept a.ordered a.same mine kept in
    let agree = all_mapped value l.Fits (λ (e : ℤ × X). passes e ≡ (l.key e.1 == n)) (λ e fits. is.finds n e.0 e.1 fits) held.entries held.fit in
    let values = kept_values l.key n passes held.entries agree in
    let these : IsPermutation (filter (has l.key n) (map value held.entries)) (map value back.0) = subst (λ vs. IsPermutation vs (map value back.0)) values (IsPermutation-map value mine back.0 back.2) in
    let whole = IsPermutation-trans _ _ _ (IsPermutation-sym _ _ (IsPermutation-filter (has l.key n) _ _ held.listed)) these in
    let same : map value back.0 ≡ filter (has l.key n) xs = same_few _ _ whole (at_most_one l.key n xs held.rises) in (
      map value back.0,
      a.shown ∙ ap (map (λ (o : Output). o.1)) back.1 ∙ map-map _ out back.0 ∙ each back.0 ∙ sym (map-map l.columns value back.0),
      ap first_of same ∙ first_is l.key n xs,
      subst (AllByRecursion l.Fits) (sym same) (all_having l.key n l.Fits xs (all_permuted l.Fits _ _ held.listed held.fit)),
    )
  where
    each : (es : List (ℤ × X)) → map (λ (e : ℤ × X). Rattle.sqlite_sql.specs.Term.eval_all l.table.projected (l.key_columns n ∷ with_rowid l.columns e ∷ [])) es ≡ map (λ (e : ℤ × X). l.columns e.1) es
    each [] = refl
    each (e ∷ es) = ap₂ (λ a b. a ∷ b) (one.read (l.key_columns n) e.0 e.1) (each es)
