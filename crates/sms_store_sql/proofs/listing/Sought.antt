-- What a query for a number reads.
use Rattle.std.proofs.Common.{◌≡◌, ℕ, ℤ, ◌<◌, ◌==◌, List, [], ◌∷◌, map, filter, Bool, true, false, cond, refl, sym, ap, ap₂, subst, ◌∙◌, IsPermutation}
use Rattle.std.specs.List.{AllByRecursion, list_all}
use Rattle.std.proofs.lemmas.List.Sorted.{IsPermutation-map, IsPermutation-trans, IsPermutation-sym}
use Rattle.sqlite.specs.Order.{Row}
use Rattle.sqlite.specs.Query.{IsAnswer, output, Output}
use Rattle.sqlite.specs.Program.{overlay}
use Rattle.sqlite.specs.Term.{Term, holds}
use Rattle.sqlite.specs.State.{State, Shown}
use Rattle.sqlite.specs.declared.types.Value.TheVariants.{Null}
use Rattle.sqlite.proofs.Callers.{reads_as}
use Rattle.sqlite_typed.proofs.AnswerLemmas.{last_table, at_end, matches_are}
use Rattle.sqlite_keyed.proofs.ListLemmas.{map-map, all-filter, IsPermutation-filter}
use Rattle.sms_rows.specs.table.Table.{Rises}
use Rattle.sms_store_sql.specs.listing.Columns.{number}
use Rattle.sms_store_sql.specs.listing.Listing.{rows_where, ListOf, IsList, Represents, with_rowid}
use Rattle.sms_store_sql.specs.listing.Seeking.{SeeksBy}
use Rattle.sms_store_sql.proofs.listing.Found.{mapped_back, all_permuted}
use Rattle.sms_store_sql.proofs.listing.OneRow.{has, kept_values, all_having}
use Rattle.sms_store_sql.proofs.listing.Perms.{all_mapped}

-- some of the rows stand in the order of all
pub rises_among : {X : Type 0} (key : X → ℕ) (p : X → Bool) (xs : List X) → Rises key xs → Rises key (filter p xs)
rises_among key p [] h = tt
rises_among key p (x ∷ xs) h =
    elim (p x) as (λ b. Rises key (cond b (x ∷ filter p xs) (filter p xs))) [
      | true ↦ (all-filter (λ y. key x < key y) p xs h.0, rises_among key p xs h.1)
      | false ↦ rises_among key p xs h.1
    ]

pub seeks_rows : {X : Type 0} (l : ListOf X) (is : IsList l) (mark : X → ℕ) (text : List ℕ) (tests : List Term) (by : SeeksBy l mark text tests) (n : ℕ) (old new : State) (rows : List Row)
    → old.now.schema ≡ l.table.schema → Shown text (number n ∷ []) old new rows → (xs : List X) → Represents l (old.now.trees l.table.tree) xs
    → (ps : List X) × (rows ≡ map l.columns ps) × IsPermutation ps (filter (has mark n) xs) × AllByRecursion l.Fits ps
seeks_rows {X} l is mark text tests by n old new rows ours h xs held =
    let t = l.table in
    let params = number n ∷ [] in
    let q = rows_where t.tree tests t.projected in
    let db = overlay old.now.trees [] in
    let read = reads_as text params old new t.schema ours _ by.selects by.alone by.is_no_listing rows h in
    let a : IsAnswer q db params rows = read.answer Null in
    let stored = is.own_tree old.now.trees ∙ held.stored in
    let source = last_table db t.tree (with_rowid l.columns) (λ (e : ℤ × X). e.0) held.entries stored held.keyed (at_end db) in
    let passes = λ (e : ℤ × X). list_all (holds (params ∷ with_rowid l.columns e ∷ [])) tests in
    let mine = filter passes held.entries in
    let env = λ (e : ℤ × X). params ∷ with_rowid l.columns e ∷ [] in
    let out = λ (e : ℤ × X). output q (env e) in
    let value = λ (e : ℤ × X). e.1 in
    let staged : a.staged ≡ map env mine = a.grouped ∙ matches_are q db params source passes (λ e. refl) in
    let kept : a.kept ≡ map out mine = a.distinct ∙ ap (map (output q)) staged ∙ map-map (output q) env mine in
    let back = mapped_back out a.kept a.ordered a.same mine kept in
    let agree = all_mapped value l.Fits (λ (e : ℤ × X). passes e ≡ (mark e.1 == n)) (λ e fits. by.finds n e.0 e.1 fits) held.entries held.fit in
    let values = kept_values mark n passes held.entries agree in
    let these : IsPermutation (filter (has mark n) (map value held.entries)) (map value back.0) = subst (λ vs. IsPermutation vs (map value back.0)) values (IsPermutation-map value mine back.0 back.2) in
    let fit = all_permuted l.Fits _ _ these (all_having mark n l.Fits (map value held.entries) held.fit) in (
      map value back.0,
      a.shown ∙ ap (map (λ (o : Output). o.1)) back.1 ∙ map-map _ out back.0 ∙ each back.0 ∙ sym (map-map l.columns value back.0),
      IsPermutation-trans _ _ _ (IsPermutation-sym _ _ these) (IsPermutation-filter (has mark n) _ _ held.listed),
      fit,
    )
  where
    each : (es : List (ℤ × X)) → map (λ (e : ℤ × X). Rattle.sqlite_sql.specs.Term.eval_all l.table.projected ((number n ∷ []) ∷ with_rowid l.columns e ∷ [])) es ≡ map (λ (e : ℤ × X). l.columns e.1) es
    each [] = refl
    each (e ∷ es) = ap₂ (λ a b. a ∷ b) (by.read (number n ∷ []) e.0 e.1) (each es)
