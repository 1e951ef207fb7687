-- What a deletion and an insertion make of the rows of one table.
use Rattle.std.proofs.Common.{◌≡◌, ℕ, ℤ, pos, ◌+ℤ◌, ◌<ℤ◌, List, [], ◌∷◌, ◌++◌, map, filter, fold, Bool, true, false, cond, ◌==◌, refl, sym, ap, subst, ◌∙◌}
use Rattle.std.specs.List.{list_all, AllByRecursion}
use Rattle.std.specs.List.Sorted.{IsPermutation}
use Rattle.std.proofs.lemmas.List.Sorted.{IsPermutation-map}
use Rattle.sqlite.specs.declared.types.Value.TheVariants.{Int}
use Rattle.sqlite.specs.Order.{Row}
use Rattle.sqlite.specs.Tree.{Trees}
use Rattle.sqlite_trees.specs.Tree.{rowid, put_row}
use Rattle.sqlite.specs.Term.{Term, holds}
use Rattle.sqlite.specs.Query.{IsAnswer, output, Output}
use Rattle.sqlite_rules.specs.Edit.{id_in, without_all, next_rowid}
use Rattle.sqlite_rules.specs.Calls.{ids_of}
use Rattle.sqlite_typed.proofs.AnswerLemmas.{last_table, at_end, matches_are}
use Rattle.sqlite_typed.proofs.RowLemmas.{puts-map, deletes-map}
use Rattle.sqlite_keyed.specs.Keyed.{IsKeyedBy, insert_by, next_key}
use Rattle.sqlite_keyed.specs.Lists.{delete_where, without_key}
use Rattle.sqlite_keyed.proofs.ListLemmas.{map-map, along_permutation}
use Rattle.sqlite_keyed.proofs.KeyedLemmas.{IsKeyedBy-insert_by, IsKeyedBy-delete_where, Less-from_lt, above_all}
use Rattle.sqlite_keyed.proofs.WriteLemmas.{removes_delete}
use Rattle.sms_rows.specs.table.Table.{Rises, without, insert}
use Rattle.sms_rows.proofs.table.Tables.{rises_without}
use Rattle.sms_store_sql.specs.listing.Listing.{ListOf, Represents, with_rowid, rowids_where}
use Rattle.sms_store_sql.proofs.listing.Perms.{permuted_without, permuted_more, all_without, all_end, left_values}

-- the order of the ids does not matter
filter_turn : {X : Type 0} (p q : X → Bool) (xs : List X) → filter p (filter q xs) ≡ filter q (filter p xs)
filter_turn p q [] = refl
filter_turn p q (x ∷ xs) = go (p x) (q x) refl refl (filter_turn p q xs)
  where
    go : (a b : Bool) → p x ≡ a → q x ≡ b → filter p (filter q xs) ≡ filter q (filter p xs)
        → filter p (cond b (x ∷ filter q xs) (filter q xs)) ≡ filter q (cond a (x ∷ filter p xs) (filter p xs))
    go true true s t more = rw (s, t) (ap (λ l. x ∷ l) more)
    go false true s t more = rw s more
    go true false s t more = rw t more
    go false false s t more = more

removes_in_any_order : {X : Type 0} (key : X → ℤ) (xs : List X) (ids others : List ℤ) → IsPermutation ids others → fold (without_key key) xs ids ≡ fold (without_key key) xs others
removes_in_any_order {X} key xs ids others same =
    along_permutation (λ a b. (l : List X) → fold (without_key key) l a ≡ fold (without_key key) l b)
    (λ a l. refl)
    (λ x a b h l. h (without_key key l x))
    (λ x y a l. ap (λ m. fold (without_key key) m a) (filter_turn _ _ l))
    (λ a b d p q l. p l ∙ q l)
    ids others same xs

map_end : {A B : Type 0} (f : A → B) (xs : List A) (x : A) → map f (xs ++ x ∷ []) ≡ map f xs ++ f x ∷ []
map_end f [] x = refl
map_end f (y ∷ xs) x = ap (λ l. f y ∷ l) (map_end f xs x)

module _ {X : Type 0} (columns : X → Row) (entries : List (ℤ × X)) (keyed : IsKeyedBy (λ (e : ℤ × X). e.0) entries) where
  abbrev id_of : ℤ × X → ℤ
  id_of e = e.0

  module _ (db : Trees) (tree : ℕ) (stored : db tree ≡ map (with_rowid columns) entries) (terms : List Term) (params : Row) where
    abbrev pub passes : ℤ × X → Bool
    passes e = list_all (holds (params ∷ with_rowid columns e ∷ [])) terms

    ids_are : (rows : List Row) → IsAnswer (rowids_where tree terms) db params rows → IsPermutation (map id_of (filter passes entries)) (ids_of rows)
    ids_are rows a =
        let q = rowids_where tree terms in
        let source = last_table db tree (with_rowid columns) id_of entries stored keyed (at_end db) in
        let staged : a.staged ≡ map (λ e. params ∷ with_rowid columns e ∷ []) (filter passes entries) = a.grouped ∙ matches_are q db params source passes (λ e. refl) in
        let kept : a.kept ≡ map (λ (e : ℤ × X). ([], Int e.0 ∷ [])) (filter passes entries) = a.distinct ∙ ap (map (output q)) staged ∙ map-map (output q) _ _ in
        let id = λ (o : Output). id_in (rowid o.1) in
        let mine = IsPermutation-map id a.kept a.ordered a.same in
        let shown : ids_of rows ≡ map id a.ordered = ap ids_of a.shown ∙ map-map _ _ a.ordered in
        subst (λ l. IsPermutation l (ids_of rows)) (ap (map id) kept ∙ map-map id _ _) (subst (IsPermutation (map id a.kept)) (sym shown) mine)

    pub left_is : (rows : List Row) → IsAnswer (rowids_where tree terms) db params rows → without_all (db tree) (ids_of rows) ≡ map (with_rowid columns) (delete_where passes entries)
    left_is rows a =
        ap (λ l. without_all l (ids_of rows)) stored ∙ deletes-map id_of (with_rowid columns) (λ e. refl) (ids_of rows) entries
        ∙ ap (map (with_rowid columns)) (sym (removes_in_any_order id_of entries _ _ (ids_are rows a)) ∙ removes_delete id_of passes entries keyed)

pub insert_last : {X : Type 0} (xs : List (ℤ × X)) (new : ℤ × X) → AllByRecursion (λ (y : ℤ × X). y.0 <ℤ new.0) xs → insert_by (λ (e : ℤ × X). e.0) xs new ≡ xs ++ new ∷ []
insert_last [] new h = refl
insert_last (x ∷ xs) new h = rw (Less-from_lt x.0 new.0 h.0) (ap (λ l. x ∷ l) (insert_last xs new h.1))

pub below_next : {X : Type 0} (xs : List (ℤ × X)) → IsKeyedBy (λ (e : ℤ × X). e.0) xs → AllByRecursion (λ (y : ℤ × X). y.0 <ℤ next_key (λ (e : ℤ × X). e.0) xs) xs
below_next {X = X} [] up = tt
below_next {X = X} (x ∷ xs) up = above_all (λ (e : ℤ × X). e.0) xs x up

pub next_from : {X : Type 0} (columns : X → Row) (xs : List (ℤ × X)) (a : ℤ) → fold (λ _ r. id_in (rowid r) +ℤ pos 1) a (map (with_rowid columns) xs) ≡ fold (λ _ (e : ℤ × X). e.0 +ℤ pos 1) a xs
next_from columns [] a = refl
next_from columns (x ∷ xs) a = next_from columns xs (x.0 +ℤ pos 1)

module _ {X : Type 0} (l : ListOf X) (old : List Row) (xs : List X) (held : Represents l old xs) where
  pub holds_left : (n : ℕ) (p : ℤ × X → Bool) (rows : List Row) → AllByRecursion (λ (e : ℤ × X). p e ≡ (l.key e.1 == n)) held.entries
      → rows ≡ map (with_rowid l.columns) (delete_where p held.entries) → Represents l rows (without l.key n xs)
  holds_left n p rows agree is =
      let left = left_values l.key n p held.entries agree in
      record {
        entries = delete_where p held.entries;
        keyed = IsKeyedBy-delete_where (λ (e : ℤ × X). e.0) p held.entries held.keyed;
        stored = is;
        listed = subst (λ ys. IsPermutation ys (without l.key n xs)) (sym left) (permuted_without l.key n _ xs held.listed);
        rises = rises_without l.key n xs held.rises;
        fit = subst (AllByRecursion l.Fits) (sym left) (all_without l.key l.Fits n _ held.fit);
      }

  -- the row is behind the others, under a rowid of its own
  pub stored_more : (x : X) (rows : List Row) → rows ≡ put_row (Int (next_rowid old) ∷ l.columns x) old
      → rows ≡ map (with_rowid l.columns) (held.entries ++ (next_key (λ (e : ℤ × X). e.0) held.entries, x) ∷ [])
  stored_more x rows is =
      let id = λ (e : ℤ × X). e.0 in
      let new : ℤ × X = (next_key id held.entries, x) in
      let next : next_rowid old ≡ next_key id held.entries = ap next_rowid held.stored ∙ next_from l.columns held.entries (pos 1) in
      let last = insert_last held.entries new (below_next held.entries held.keyed) in
      is ∙ ap (λ n. put_row (Int n ∷ l.columns x) old) next ∙ ap (put_row (with_rowid l.columns new)) held.stored
      ∙ puts-map id (with_rowid l.columns) (λ e. refl) (new ∷ []) held.entries ∙ ap (map (with_rowid l.columns)) last

  pub holds_more : (x : X) (rows : List Row) → l.Fits x → Rises l.key (insert l.key x xs) → rows ≡ put_row (Int (next_rowid old) ∷ l.columns x) old → Represents l rows (insert l.key x xs)
  holds_more x rows fits rises is =
      let id = λ (e : ℤ × X). e.0 in
      let value = λ (e : ℤ × X). e.1 in
      let new : ℤ × X = (next_key id held.entries, x) in
      let last = insert_last held.entries new (below_next held.entries held.keyed) in
      let values : map value (held.entries ++ new ∷ []) ≡ map value held.entries ++ x ∷ [] = map_end value held.entries new in
      record {
        entries = held.entries ++ new ∷ [];
        keyed = subst (IsKeyedBy id) last (IsKeyedBy-insert_by id held.entries new held.keyed);
        stored = stored_more x rows is;
        listed = subst (λ ys. IsPermutation ys (insert l.key x xs)) (sym values) (permuted_more l.key x _ xs held.listed);
        rises = rises;
        fit = subst (AllByRecursion l.Fits) (sym values) (all_end l.Fits x _ held.fit fits);
      }
