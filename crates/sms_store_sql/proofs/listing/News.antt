-- What it makes of a list that a row is added: where that succeeds, no row had its key.
use Rattle.std.proofs.Common.{arith, ◌≡◌, ℕ, ℤ, ◌<ℤ◌, ◌==◌, List, [], ◌∷◌, ◌++◌, map, filter, length, Bool, true, false, not, ◌&&◌, ◌||◌, cond, refl, sym, ap, subst, ◌∙◌, int_eq}
use Rattle.std.specs.List.{AllByRecursion, list_all, list_any}
use Rattle.std.specs.Str.{bytes_eq}
use Rattle.std.proofs.lemmas.Bool.{and_parts, eqb-true, not-true}
use Rattle.std.proofs.lemmas.Int.{ints}
use Rattle.std.proofs.lemmas.List.Sorted.{length_permutation}
use Rattle.std.proofs.lemmas.Slice.Eq.{bytes_eq-Decides}
use Rattle.sqlite.specs.declared.types.Value.TheVariants.{Int}
use Rattle.sqlite.specs.Order.{Row}
use Rattle.sqlite.specs.Tree.{Trees}
use Rattle.sqlite.specs.State.{State}
use Rattle.sqlite_trees.specs.Tree.{put_row}
use Rattle.sqlite_rules.specs.Edit.{next_rowid}
use Rattle.sqlite_keyed.specs.Keyed.{next_key}
use Rattle.sqlite_keyed.proofs.ListLemmas.{IsPermutation-filter}
use Rattle.sqlite_value.specs.declared.keys.Order.{Order}
use Rattle.sqlite_value.specs.Keys.{plain}
use Rattle.sqlite_schema.specs.declared.schema.Constraint.TheVariants.{Unique}
use Rattle.sqlite_schema.specs.declared.schema.Index.{Index}
use Rattle.sqlite_schema.specs.Rules.{agree, clashes, guards, passes as passes_rule}
use Rattle.sqlite_tied.proofs.RuleLemmas.{clash_is}
use Rattle.sms_rows.specs.table.Table.{Rises, insert, put}
use Rattle.sms_rows.proofs.table.Tables.{rises_put}
use Rattle.sms_store_sql.specs.listing.Inside.{Alters, Ran}
use Rattle.sms_store_sql.specs.listing.Listing.{IsList, ListOf, Represents, is_key_index, table_of, with_rowid}
use Rattle.sms_store_sql.proofs.listing.Changed.{none_there}
use Rattle.sms_store_sql.proofs.listing.OneRow.{has}
use Rattle.sms_store_sql.proofs.listing.Statements.{AreUnique, inserts}
use Rattle.sms_store_sql.proofs.listing.Trees.{below_next, stored_more}

-- ---- lists

any_none : {X : Type 0} (p : X → Bool) (xs : List X) → list_any p xs ≡ false → AllByRecursion (λ (x : X). p x ≡ false) xs
any_none p [] e = tt
any_none p (x ∷ xs) e = go (p x) refl e (any_none p xs)
  where
    go : (b : Bool) → p x ≡ b → (b || list_any p xs) ≡ false → (list_any p xs ≡ false → AllByRecursion (λ y. p y ≡ false) xs) → (p x ≡ false) × AllByRecursion (λ y. p y ≡ false) xs
    go true t f more = let bad : true ≡ false = f in absurd cc
    go false t f more = (t, more f)

all_front : {X : Type 0} (P : X → Type 0) (xs ys : List X) → AllByRecursion P (xs ++ ys) → AllByRecursion P xs
all_front P [] ys h = tt
all_front P (x ∷ xs) ys h = (h.0, all_front P xs ys h.1)

all_last : {X Y : Type 0} (f : X → Y) (P : Y → Type 0) (xs : List X) (x : X) → AllByRecursion P (map f (xs ++ x ∷ [])) → P (f x)
all_last f P [] x h = h.0
all_last f P (y ∷ ys) x h = all_last f P ys x h.1

some_has : {X : Type 0} (p q : X → Bool) (xs : List X) → list_any p xs ≡ true → list_all q xs ≡ true → (x : X) × ((p x ≡ true) × (q x ≡ true))
some_has p q [] e f = let bad : false ≡ true = e in absurd cc
some_has {X = X} p q (x ∷ xs) e f = let rest = and_parts (q x) (list_all q xs) f in go (p x) refl e rest.0 (λ g. some_has p q xs g rest.1)
  where
    go : (b : Bool) → p x ≡ b → (b || list_any p xs) ≡ true → q x ≡ true → (list_any p xs ≡ true → (y : X) × ((p y ≡ true) × (q y ≡ true))) → (y : X) × ((p y ≡ true) × (q y ≡ true))
    go true t g h more = (x, (t, h))
    go false t g h more = more g

none_kept : {X : Type 0} (q : X → Bool) (es : List (ℤ × X)) → AllByRecursion (λ (e : ℤ × X). q e.1 ≡ false) es → filter q (map (λ (e : ℤ × X). e.1) es) ≡ []
none_kept q [] h = refl
none_kept {X = X} q (e ∷ es) h =
    let rest : List X = filter q (map (λ (f : ℤ × X). f.1) es) in ap (λ b. cond b (e.1 ∷ rest) rest) h.0 ∙ none_kept q es h.1

-- of two lists of facts the one list of what both give
both_all : {X : Type 0} (P Q R : X → Type 0) → ((x : X) → P x → Q x → R x) → (xs : List X) → AllByRecursion P xs → AllByRecursion Q xs → AllByRecursion R xs
both_all P Q R g [] h k = tt
both_all P Q R g (x ∷ xs) h k = (g x h.0 k.0, both_all P Q R g xs h.1 k.1)

mapped_all : {X Y : Type 0} (f : X → Y) (P : Y → Type 0) (xs : List X) → AllByRecursion P (map f xs) → AllByRecursion (λ (x : X). P (f x)) xs
mapped_all f P [] h = tt
mapped_all f P (x ∷ xs) h = (h.0, mapped_all f P xs h.1)

apart : (a b : ℤ) → a <ℤ b → int_eq a b ≡ false
apart a b low = grind (arith, ints, low)

and_false : (a b : Bool) → a ≡ true → (a && b) ≡ false → b ≡ false
and_false true b e f = f
and_false false b e f = let bad : false ≡ true = e in absurd cc

-- ---- the row's key is new

module _ {X : Type 0} (l : ListOf X) (is : IsList l) (x : X) (fits : l.Fits x) where
  abbrev id : ℤ × X → ℤ
  id e = e.0

  abbrev row_of : ℤ × X → Row
  row_of e = with_rowid l.columns e

  abbrev same : ℤ × X → ℤ × X → Bool
  same a b = agree plain l.table.key (row_of a) l.table.key (row_of b)

  module _ (old : List Row) (xs : List X) (held : Represents l old xs) (db : Trees) (rows : db l.table.tree ≡ put_row (Int (next_rowid old) ∷ l.columns x) old) (unique : AreUnique l db) where
    abbrev new : ℤ × X
    new = (next_key id held.entries, x)

    abbrev all : List (ℤ × X)
    all = held.entries ++ new ∷ []

    stored : db l.table.tree ≡ map row_of all
    stored = stored_more l old xs held x (db l.table.tree) rows

    passing : passes_rule Unique l.table.schema db (table_of l.table) (row_of new) ≡ true
    passing =
        all_last row_of (λ (r : Row). passes_rule Unique l.table.schema db (table_of l.table) r ≡ true) held.entries new
        (subst (AllByRecursion (λ (r : Row). passes_rule Unique l.table.schema db (table_of l.table) r ≡ true)) stored unique)

    -- the index of the key finds no other
    no_clash : clashes plain l.table.key (db l.table.tree) (row_of new) ≡ false
    no_clash =
        let found = some_has (λ (i : Index). is_key_index (table_of l.table) l.table.key i) (λ (i : Index). not (guards i (table_of l.table) && clashes i.order i.columns (db l.table.tree) (row_of new))) l.table.schema.indexes is.guarded passing in
        let i : Index = found.0 in
        let p = and_parts (guards i (table_of l.table)) ((i.order.digits == 0) && bytes_eq i.columns l.table.key) found.1.0 in
        let q = and_parts (i.order.digits == 0) (bytes_eq i.columns l.table.key) p.1 in
        let order : i.order ≡ plain = ap (λ (n : ℕ). let o : Order = record { digits = n } in o) (eqb-true i.order.digits 0 q.0) in
        let columns : i.columns ≡ l.table.key = (bytes_eq-Decides i.columns l.table.key).0 q.1 in
        let none = and_false (guards i (table_of l.table)) (clashes i.order i.columns (db l.table.tree) (row_of new)) p.0 (not-true _ found.1.1) in
        sym (ap (λ (o : Order). clashes o i.columns (db l.table.tree) (row_of new)) order ∙ ap (λ (ps : List ℕ). clashes plain ps (db l.table.tree) (row_of new)) columns) ∙ none

    none_like : AllByRecursion (λ (e : ℤ × X). (not (int_eq e.0 new.0) && same e new) ≡ false) all
    none_like =
        any_none (λ (e : ℤ × X). not (int_eq e.0 new.0) && same e new) all
        (not-true _ (sym (clash_is db l.table.tree row_of id all stored (λ e. refl) l.table.key same (λ a b. refl) new) ∙ ap not no_clash))

    others : AllByRecursion (λ (e : ℤ × X). has l.key (l.key x) e.1 ≡ false) held.entries
    others =
        both_all (λ (e : ℤ × X). l.Fits e.1 × (e.0 <ℤ new.0)) (λ (e : ℤ × X). (not (int_eq e.0 new.0) && same e new) ≡ false) (λ (e : ℤ × X). has l.key (l.key x) e.1 ≡ false)
        (λ e h k.
        let other : not (int_eq e.0 new.0) ≡ true = ap not (apart e.0 new.0 h.1) in
        sym (is.agrees x e.0 new.0 e.1 ∙ is.meets x e.0 e.1 fits h.0) ∙ and_false (not (int_eq e.0 new.0)) (same e new) other k)
        held.entries
        (both_all (λ (e : ℤ × X). l.Fits e.1) (λ (e : ℤ × X). e.0 <ℤ new.0) (λ (e : ℤ × X). l.Fits e.1 × (e.0 <ℤ new.0)) (λ e h k. (h, k)) held.entries
        (mapped_all (λ (e : ℤ × X). e.1) l.Fits held.entries held.fit) (below_next held.entries held.keyed))
        (all_front (λ (e : ℤ × X). (not (int_eq e.0 new.0) && same e new) ≡ false) held.entries (new ∷ []) none_like)

    pub none_had : length (filter (has l.key (l.key x)) xs) ≡ 0
    none_had =
        length_permutation _ _ (IsPermutation-filter (has l.key (l.key x)) _ _ held.listed)
        ∙ ap (λ (ys : List X). length ys) (none_kept (has l.key (l.key x)) held.entries others)

  pub added : (a b : State) → Ran l.table.insert (l.columns x) a b → Alters l (put l.key x) a b
  added a b h =
      let add = inserts l is a b x fits h in
      record {
        inside = h.inside;
        schema = add.schema;
        changed = λ has xs held.
            let none = none_there l.key x xs (none_had (a.now.trees l.table.tree) xs held b.now.trees (add.rows has) (add.unique has)) in
            let equal : insert l.key x xs ≡ put l.key x xs = ap (insert l.key x) (sym none.1) in
            subst (Represents l (b.now.trees l.table.tree)) equal (add.changed has xs held (subst (Rises l.key) (sym equal) (rises_put l.key x xs held.rises)));
        others = add.others;
      }
