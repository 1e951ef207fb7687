-- What a text does that changes the row of a key in place.
use Rattle.std.proofs.Common.{◌≡◌, ◌≢◌, ℕ, ◌≤◌, ◌==◌, ℤ, true, None, Some, [], ◌∷◌, Ok, refl, sym, ap, ap₂, subst, ◌∙◌, length, List, map, filter, drop, Bool, arith, IsPermutation, unwrap_or}
use Rattle.std.specs.List.{AllByRecursion, list_all}
use Rattle.std.proofs.lemmas.List.{length-map}
use Rattle.std.proofs.lemmas.List.Sorted.{IsPermutation-map, length_permutation}
use Rattle.sqlite.specs.declared.types.Value.TheVariants.{Null, Int}
use Rattle.sqlite.specs.Order.{Row}
use Rattle.sqlite.specs.Tree.{Trees}
use Rattle.sqlite.specs.Term.{Term, col, holds}
use Rattle.sqlite.specs.Query.{IsAnswer, output, Output}
use Rattle.sqlite.specs.Command.TheVariants.{Update}
use Rattle.sqlite.specs.Program.{overlay}
use Rattle.sqlite_rules.specs.Cast.{cast_row}
use Rattle.sqlite_rules.specs.Edit.{edit_of, numbered, put_all, without_all, taken_by, IsNoIndex}
use Rattle.sqlite.specs.Rowids.TheVariants.{Given}
use Rattle.sqlite.specs.Does.{Tally, Does}
use Rattle.sqlite.specs.Rows.{Written}
use Rattle.sqlite.specs.Effect.{Database}
use Rattle.sqlite.specs.Listing.{understood}
use Rattle.sqlite.specs.State.{State, mode_of, Executes}
use Rattle.sqlite_rules.specs.Calls.{ids_of}
use Rattle.sqlite_sql.specs.Term.{eval_all}
use Rattle.sqlite.proofs.Callers.{IsPlain, command_of, runs_as, statement_of, one_step}
use Rattle.sqlite_typed.proofs.AnswerLemmas.{last_table, at_end, matches_are}
use Rattle.sqlite_typed.proofs.RowLemmas.{puts-map, deletes-map}
use Rattle.sqlite_keyed.specs.Lists.{update_where, delete_where, without_key}
use Rattle.sqlite_keyed.proofs.ListLemmas.{map-map, IsPermutation-filter as filtered}
use Rattle.sqlite_keyed.proofs.KeyedLemmas.{IsKeyedBy-update_where}
use Rattle.sqlite_keyed.proofs.WriteLemmas.{removes_delete}
use Rattle.sms_store_sql.specs.listing.Listing.{ListOf, IsList, Represents, table_of, with_rowid, rows_where}
use Rattle.sms_store_sql.proofs.listing.Changed.{none_updated, one_updated, numbered_given, turned, values_turned, all_turned, rises_turned}
use Rattle.sms_store_sql.proofs.listing.Columns.{cast_int}
use Rattle.sms_store_sql.proofs.listing.Found.{mapped_back}
use Rattle.sms_store_sql.proofs.listing.OneRow.{same_few, at_most_one, kept_values, has}
use Rattle.sms_store_sql.proofs.listing.Perms.{all_mapped}
use Rattle.sms_store_sql.proofs.listing.Statements.{went, same_value}

-- The row of the key becomes another, in place, and the count tells how many rows have the key.
pub record Turns {X : Type 0} (l : ListOf X) (n : ℕ) (becomes : X → X) (count : ℕ) (old new : State) : Type 0 where
  pub schema : old.now.schema ≡ l.table.schema → new.now.schema ≡ l.table.schema
  pub changed : old.now.schema ≡ l.table.schema → (xs : List X) → Represents l (old.now.trees l.table.tree) xs → Represents l (new.now.trees l.table.tree) (map (turned l.key n becomes) xs)
  pub counted : old.now.schema ≡ l.table.schema → (xs : List X) → Represents l (old.now.trees l.table.tree) xs → count ≡ length (filter (has l.key n) xs)
  pub others : old.now.schema ≡ l.table.schema → (tree : ℕ) → tree ≢ l.table.tree → IsNoIndex l.table.schema tree → new.now.trees tree ≡ old.now.trees tree

-- What makes a text, with its values, one that makes the row of a key another. The first two hold by computation.
pub record TurnsOne {X : Type 0} (l : ListOf X) (text : List ℕ) (params : Row) (shown : List Term) (n : ℕ) (becomes : X → X) : Type 0 where
  pub updates : command_of (understood l.table.schema text) ≡ Update l.table.place (record { lets = []; body = rows_where l.table.tree l.table.tests (col 1 0 ∷ col 1 0 ∷ shown) })
  pub alone : IsPlain (understood l.table.schema text)
  pub finds : (id : ℤ) (x : X) → l.Fits x → list_all (holds (params ∷ (Int id ∷ l.columns x) ∷ [])) l.table.tests ≡ (l.key x == n)
  pub gives_columns : (id : ℤ) (x : X) → eval_all shown (params ∷ (Int id ∷ l.columns x) ∷ []) ≡ l.columns (becomes x)
  pub same_key : (x : X) → (l.key x == n) ≡ true → l.key (becomes x) ≡ l.key x
  pub still_fits : (x : X) → l.Fits x → l.Fits (becomes x)

module _ {X : Type 0} (l : ListOf X) (is : IsList l) (text : List ℕ) (params : Row) (shown : List Term) (n : ℕ) (becomes : X → X) (one : TurnsOne l text params shown n becomes) where
  abbrev id : ℤ × X → ℤ
  id e = e.0

  abbrev value : ℤ × X → X
  value e = e.1

  abbrev next : ℤ × X → ℤ × X
  next e = (e.0, becomes e.1)

  -- the row that the query gives for one that it finds
  abbrev given : ℤ × X → Row
  given e = Int e.0 ∷ with_rowid l.columns (next e)

  abbrev passes : ℤ × X → Bool
  passes e = list_all (holds (params ∷ with_rowid l.columns e ∷ [])) l.table.tests

  -- a row stays as it is under its rowid
  stays : (r : ℤ) (x : X) → cast_row (table_of l.table) (Int r ∷ l.columns x) ≡ Int r ∷ l.columns x
  stays r x = ap₂ (λ v vs. v ∷ vs) (cast_int r) (ap (drop 1) (is.stays x))

  module _ (db : Trees) (xs : List X) (held : Represents l (db l.table.tree) xs) where
    agree : AllByRecursion (λ (e : ℤ × X). passes e ≡ (l.key e.1 == n)) held.entries
    agree = all_mapped value l.Fits (λ (e : ℤ × X). passes e ≡ (l.key e.1 == n)) (λ e fits. one.finds e.0 e.1 fits) held.entries held.fit

    -- as many rows are found as have the key
    as_many : length (filter passes held.entries) ≡ length (filter (has l.key n) xs)
    as_many =
        sym (length-map (filter passes held.entries) value) ∙ ap (λ (ys : List X). length ys) (kept_values l.key n passes held.entries agree)
        ∙ sym (length_permutation _ _ (filtered (has l.key n) _ _ held.listed))

    few : length (filter passes held.entries) ≤ 1
    few = omega (arith, as_many, at_most_one l.key n xs held.rises)

    found : (rows : List Row) → IsAnswer (rows_where l.table.tree l.table.tests (col 1 0 ∷ col 1 0 ∷ shown)) (overlay db []) params rows → rows ≡ map given (filter passes held.entries)
    found rows a =
        let query = rows_where l.table.tree l.table.tests (col 1 0 ∷ col 1 0 ∷ shown) in
        let stored = is.own_tree db ∙ held.stored in
        let source = last_table (overlay db []) l.table.tree (with_rowid l.columns) id held.entries stored held.keyed (at_end (overlay db [])) in
        let mine = filter passes held.entries in
        let env = λ (e : ℤ × X). params ∷ with_rowid l.columns e ∷ [] in
        let out = λ (e : ℤ × X). output query (env e) in
        let staged : a.staged ≡ map env mine = a.grouped ∙ matches_are query (overlay db []) params source passes (λ e. refl) in
        let kept : a.kept ≡ map out mine = a.distinct ∙ ap (map (output query)) staged ∙ map-map (output query) env mine in
        let back = mapped_back out a.kept a.ordered a.same mine kept in
        a.shown ∙ ap (map (λ (o : Output). o.1)) back.1 ∙ map-map _ out back.0 ∙ each back.0 ∙ ap (map given) (same_few _ _ back.2 few)
      where
        each : (es : List (ℤ × X)) → map (λ (e : ℤ × X). eval_all (col 1 0 ∷ col 1 0 ∷ shown) (params ∷ with_rowid l.columns e ∷ [])) es ≡ map given es
        each [] = refl
        each (e ∷ es) = ap₂ (λ a b. (Int e.0 ∷ Int e.0 ∷ a) ∷ b) (one.gives_columns e.0 e.1) (each es)

    -- the new rows of the statement, and the rows of the table then
    abbrev news : List Row → List Row
    news rows = numbered Given (without_all (db l.table.tree) (ids_of rows)) (map (λ s. cast_row (table_of l.table) (drop 1 s)) rows)

    abbrev after : List Row → List Row
    after rows = put_all (without_all (db l.table.tree) (ids_of rows)) (news rows)

    after_found : after (map given (filter passes held.entries)) ≡ map (with_rowid l.columns) (update_where passes next held.entries)
    after_found = go (filter passes held.entries) refl few
      where
        go : (mine : List (ℤ × X)) → filter passes held.entries ≡ mine → length mine ≤ 1 → after (map given mine) ≡ map (with_rowid l.columns) (update_where passes next held.entries)
        go [] none small = held.stored ∙ ap (map (with_rowid l.columns)) (sym (none_updated passes next held.entries none))
        go (e ∷ []) here small =
            let left : without_all (db l.table.tree) (e.0 ∷ []) ≡ map (with_rowid l.columns) (delete_where passes held.entries) =
            ap (λ rows. without_all rows (e.0 ∷ [])) held.stored ∙ deletes-map id (with_rowid l.columns) (λ e. refl) (e.0 ∷ []) held.entries
            ∙ ap (map (with_rowid l.columns)) (ap (λ es. Rattle.std.specs.Prelude.fold (without_key id) held.entries (map id es)) (sym here) ∙ removes_delete id passes held.entries held.keyed) in
            let put = numbered_given (map (λ s. cast_row (table_of l.table) (drop 1 s)) (map given (e ∷ []))) (without_all (db l.table.tree) (e.0 ∷ [])) ∙ ap (λ r. r ∷ []) (stays e.0 (becomes e.1)) in
            ap₂ put_all left put ∙ puts-map id (with_rowid l.columns) (λ e. refl) (next e ∷ []) (delete_where passes held.entries)
            ∙ ap (map (with_rowid l.columns)) (one_updated id passes next (λ e. refl) e held.entries held.keyed here)
        go (e ∷ f ∷ more) here small = absurd (omega (arith, small))

    -- as many rows are written as are found
    count_is : (rows : List Row) → rows ≡ map given (filter passes held.entries) → length (news rows) ≡ length (filter (has l.key n) xs)
    count_is rows are =
        ap (λ (rs : List Row). length rs) (numbered_given (map (λ s. cast_row (table_of l.table) (drop 1 s)) rows) (without_all (db l.table.tree) (ids_of rows)))
        ∙ length-map rows _ ∙ ap (λ (rs : List Row). length rs) are ∙ length-map (filter passes held.entries) given ∙ as_many

    holds_turned : (rows : List Row) → rows ≡ map (with_rowid l.columns) (update_where passes next held.entries) → Represents l rows (map (turned l.key n becomes) xs)
    holds_turned rows are =
        let values = values_turned l.key n becomes passes held.entries agree in
        record {
          entries = update_where passes next held.entries;
          keyed = IsKeyedBy-update_where id passes next (λ e. refl) held.entries held.keyed;
          stored = are;
          listed = subst (λ ys. IsPermutation ys (map (turned l.key n becomes) xs)) (sym values) (IsPermutation-map (turned l.key n becomes) _ _ held.listed);
          rises = rises_turned l.key n becomes one.same_key xs held.rises;
          fit = subst (AllByRecursion l.Fits) (sym values) (all_turned l.key n becomes l.Fits one.still_fits (map value held.entries) held.fit);
        }

  pub updates : (old new : State) (count : ℕ) → Executes text params old new (Ok count) → Turns l n becomes count old new
  updates old new count h = record { schema = λ has. (done has).0; changed = λ has xs held. ((done has).1 xs held).0; counted = λ has xs held. ((done has).1 xs held).1; others = λ has. (done has).2 }
    where
      done : old.now.schema ≡ l.table.schema → (new.now.schema ≡ l.table.schema)
          × ((xs : List X) → Represents l (old.now.trees l.table.tree) xs → Represents l (new.now.trees l.table.tree) (map (turned l.key n becomes) xs) × (count ≡ length (filter (has l.key n) xs)))
          × ((tree : ℕ) → tree ≢ l.table.tree → IsNoIndex l.table.schema tree → new.now.trees tree ≡ old.now.trees tree)
      done has =
          let t = l.table in
          let db = old.now.trees in
          let keys = (mode_of old).keys in
          let command = Update t.place (record { lets = []; body = rows_where t.tree t.tests (col 1 0 ∷ col 1 0 ∷ shown) }) in
          let w = runs_as text params old new t.schema has command one.updates one.alone count h in
          let said = statement_of text (understood t.schema text) in
          let raw = subst (λ k. Does old.step_limit (mode_of old) params (record old.now { schema = k }) said None command (Ok (w.tally, new.now))) has w.changed in
          let all = went (rw is.there at raw) in
          let told = same_value (went (went all.2).2).2 in
          let now = ap (λ (p : Tally × Database). p.1) told in
          let rows = went all.1 in
          let put = went rows.2 in
          let trees : all.0.trees ≡ put.0 = ap (λ (it : Written). it.trees) (same_value put.2) in
          let edit = edit_of db (table_of t) (ids_of rows.0) Given 1 rows.0 in
          let step = one_step t.schema keys db put.0 edit (is.free keys (taken_by db edit) edit.news) put.1 in
          let whole : new.now.trees ≡ put.0 = ap (λ (d : Database). d.trees) now ∙ trees in
          let tally : w.tally.rows ≡ Some (length edit.news) = ap (λ (p : Tally × Database). p.0.rows) told ∙ ap (λ (it : Written). Some (length it.rows)) (same_value put.2) in
          let number : count ≡ length edit.news = w.counted ∙ ap (λ o. unwrap_or o 0) tally in (
            ap (λ (d : Database). d.schema) now,
            λ xs held.
                let are = found db xs held rows.0 (rows.1.answer Null) in (
                  holds_turned db xs held _ (ap (λ (a : Trees). a t.tree) whole ∙ step.rows ∙ ap (after db xs held) are ∙ after_found db xs held),
                  number ∙ count_is db xs held rows.0 are,
                ),
            λ tree other free. ap (λ (a : Trees). a tree) whole ∙ step.others tree other free,
          )
