-- What each statement on a list does.
use Rattle.std.proofs.Common.{◌≡◌, ◌≢◌, ◌⊎◌, inl, inr, ℕ, zero, suc, ℤ, true, Some, None, slice_get, [], ◌∷◌, Ok, Err, Result, sym, ap, subst, ◌∙◌, append-nil, length, List}
use Rattle.std.specs.List.{AllByRecursion}
use Rattle.sqlite_schema.specs.declared.schema.Constraint.TheVariants.{ForeignKey, Unique}
use Rattle.sqlite_schema.specs.Rules.{passes as passes_rule}
use Rattle.sqlite.specs.declared.types.Value.TheVariants.{Null, Int}
use Rattle.sqlite.specs.Order.{Row}
use Rattle.sqlite.specs.Tree.{Trees}
use Rattle.sqlite.specs.Source.TheVariants.{Values}
use Rattle.sqlite.specs.Command.TheVariants.{Insert, Delete}
use Rattle.sqlite.specs.Program.{overlay}
use Rattle.sqlite_rules.specs.Edit.{edit_of, edited, numbered, put_all, without_all, taken_by, IsNoIndex}
use Rattle.sqlite.specs.Rowids.TheVariants.{Chosen, Given}
use Rattle.sqlite.specs.Does.{Tally, Does}
use Rattle.sqlite.specs.Rows.{Written}
use Rattle.sqlite.specs.Effect.{Database}
use Rattle.sqlite.specs.Listing.{understood}
use Rattle.sqlite.specs.State.{State, mode_of}
use Rattle.sqlite_rules.specs.Calls.{ids_of}
use Rattle.sqlite_rules.specs.Edit.{next_rowid}
use Rattle.sqlite_trees.specs.Tree.{put_row}
use Rattle.sqlite.proofs.Callers.{runs_as, statement_of, one_step}
use Rattle.sms_rows.specs.table.Table.{Rises, without, insert}
use Rattle.sms_store_sql.specs.listing.Listing.{ListOf, IsList, Represents, table_of, rowids_where}
use Rattle.sms_store_sql.specs.listing.Inside.{Ran, Alters}
use Rattle.sms_store_sql.proofs.listing.Perms.{all_mapped}
use Rattle.sms_store_sql.proofs.listing.Trees.{passes, left_is, holds_left, holds_more}

not_foreign : Unique ≢ ForeignKey
not_foreign e = absurd cc

-- a part that gave a value did not stop on the way
pub went : {B E R : Type 0} {b : B} {Stops : E → Type 0} → ((stop : E) × Stops stop × (Ok b ≡ Err stop)) ⊎ R → R
went (inl stopped) = absurd (let e = stopped.2 in cc)
went (inr on) = on

pub same_value : {B E : Type 0} {a b : B} → ◌≡◌ {A = Result B E} (Ok a) (Ok b) → a ≡ b
same_value e = cc

-- each row of the table passes the rule that keys are unique
abbrev pub AreUnique : {X : Type 0} → ListOf X → Trees → Type 0
AreUnique l db = AllByRecursion (λ (r : Row). passes_rule Unique l.table.schema db (table_of l.table) r ≡ true) (db l.table.tree)

-- what holds of all holds of the one at a place
all_at : {X : Type 0} (P : X → Type 0) (xs : List X) (n : ℕ) (x : X) → AllByRecursion P xs → slice_get xs n ≡ Some x → P x
all_at P [] n x all e = absurd cc
all_at P (y ∷ ys) zero x all e = let same : y ≡ x = cc in subst P same all.0
all_at P (y ∷ ys) (suc n) x all e = all_at P ys n x all.1 e

-- what an insertion does
pub record Adds {X : Type 0} (l : ListOf X) (x : X) (old new : State) : Type 0 where
  pub schema : old.now.schema ≡ l.table.schema → new.now.schema ≡ l.table.schema
  pub changed : old.now.schema ≡ l.table.schema → (xs : List X) → Represents l (old.now.trees l.table.tree) xs → Rises l.key (insert l.key x xs) → Represents l (new.now.trees l.table.tree) (insert l.key x xs)
  pub others : old.now.schema ≡ l.table.schema → (tree : ℕ) → tree ≢ l.table.tree → IsNoIndex l.table.schema tree → new.now.trees tree ≡ old.now.trees tree
  -- the row is in the table, and each row passes the rule that keys are unique
  pub rows : old.now.schema ≡ l.table.schema → new.now.trees l.table.tree ≡ put_row (Int (next_rowid (old.now.trees l.table.tree)) ∷ l.columns x) (old.now.trees l.table.tree)
  pub unique : old.now.schema ≡ l.table.schema → AreUnique l new.now.trees

module _ {X : Type 0} (l : ListOf X) (is : IsList l) (old new : State) where
  pub deletes : (n : ℕ) → Ran l.table.delete (l.key_columns n) old new → Alters l (without l.key n) old new
  deletes n h = record { inside = h.inside; schema = λ has. (done has).0; changed = λ has. (done has).1; others = λ has. (done has).2 }
    where
      done : old.now.schema ≡ l.table.schema → (new.now.schema ≡ l.table.schema)
          × ((xs : List X) → Represents l (old.now.trees l.table.tree) xs → Represents l (new.now.trees l.table.tree) (without l.key n xs))
          × ((tree : ℕ) → tree ≢ l.table.tree → IsNoIndex l.table.schema tree → new.now.trees tree ≡ old.now.trees tree)
      done has =
          let t = l.table in
          let params = l.key_columns n in
          let db = old.now.trees in
          let keys = (mode_of old).keys in
          let command = Delete t.place (record { lets = []; body = rowids_where t.tree t.tests }) in
          let w = runs_as t.delete params old new t.schema has command is.deletes is.deletes_alone h.count h.ran in
          let text = statement_of t.delete (understood t.schema t.delete) in
          let raw = subst (λ k. Does old.step_limit (mode_of old) params (record old.now { schema = k }) text None command (Ok (w.tally, new.now))) has w.changed in
          let all = went (rw is.there at raw) in
          let now = ap (λ (p : Tally × Database). p.1) (same_value (went (went all.2).2).2) in
          let given = went all.1 in
          let written = went given.2 in
          let trees : all.0.trees ≡ written.0 = ap (λ (it : Written). it.trees) (same_value written.2) in
          let step = one_step t.schema keys db written.0 (edit_of db (table_of t) (ids_of given.0) Given 0 []) (is.free keys (taken_by db (edit_of db (table_of t) (ids_of given.0) Given 0 [])) []) written.1 in
          let whole : new.now.trees ≡ written.0 = ap (λ (d : Database). d.trees) now ∙ trees in (
            ap (λ (d : Database). d.schema) now,
            λ xs held.
                let stored = is.own_tree db ∙ held.stored in
                let left = ap (λ rows. without_all rows (ids_of given.0)) (sym (is.own_tree db)) ∙ left_is l.columns held.entries held.keyed (overlay db []) t.tree stored t.tests params given.0 (given.1.answer Null) in
                let agree = all_mapped (λ (e : ℤ × X). e.1) l.Fits _ (λ e fits. is.finds n e.0 e.1 fits) held.entries held.fit in
                holds_left l _ xs held n (passes l.columns held.entries held.keyed (overlay db []) t.tree stored t.tests params) _ agree (ap (λ (a : Trees). a t.tree) whole ∙ step.rows ∙ left),
            λ tree other free. ap (λ (a : Trees). a tree) whole ∙ step.others tree other free,
          )

  pub inserts : (x : X) → l.Fits x → Ran l.table.insert (l.columns x) old new → Adds l x old new
  inserts x fits h = record {
    schema = λ has. (done has).0;
    changed = λ has xs held rises. holds_more l _ xs held x _ fits rises (done has).1;
    others = λ has. (done has).2;
    rows = λ has. (done has).1;
    unique = λ has. (done has).3;
  }
    where
      done : old.now.schema ≡ l.table.schema → (new.now.schema ≡ l.table.schema)
          × (new.now.trees l.table.tree ≡ put_row (Int (next_rowid (old.now.trees l.table.tree)) ∷ l.columns x) (old.now.trees l.table.tree))
          × ((tree : ℕ) → tree ≢ l.table.tree → IsNoIndex l.table.schema tree → new.now.trees tree ≡ old.now.trees tree) × AreUnique l new.now.trees
      done has =
          let t = l.table in
          let params = l.columns x in
          let db = old.now.trees in
          let keys = (mode_of old).keys in
          let command = Insert t.place (Values t.values (length t.values)) in
          let w = runs_as t.insert params old new t.schema has command is.inserts is.inserts_alone h.count h.ran in
          let text = statement_of t.insert (understood t.schema t.insert) in
          let raw = subst (λ k. Does old.step_limit (mode_of old) params (record old.now { schema = k }) text None command (Ok (w.tally, new.now))) has w.changed in
          let all = went (rw is.there at raw) in
          let now = ap (λ (p : Tally × Database). p.1) (same_value (went (went all.2).2).2) in
          let given = went all.1 in
          let written = went (went given.2).2 in
          let counted = went written.2 in
          let trees : all.0.trees ≡ written.0 = ap (λ (it : Written). it.trees) (same_value counted.2) ∙ same_value counted.1 in
          let step = one_step t.schema keys db written.0 (edit_of db (table_of t) [] Chosen 0 given.0) (is.free keys (taken_by db (edit_of db (table_of t) [] Chosen 0 given.0)) (edit_of db (table_of t) [] Chosen 0 given.0).news) written.1 in
          let whole : new.now.trees ≡ written.0 = ap (λ (d : Database). d.trees) now ∙ trees in
          let sources : given.0 ≡ (Null ∷ l.columns x) ∷ [] = given.1.1 ∙ rw append-nil (is.written x) in
          let made = λ (r : Row). put_all (without_all (db t.tree) []) (numbered Chosen (without_all (db t.tree) []) (r ∷ [])) in
          let edit : edited db (edit_of db (table_of t) [] Chosen 0 given.0) ≡ put_row (Int (next_rowid (db t.tree)) ∷ l.columns x) (db t.tree) =
          ap (λ rows. edited db (edit_of db (table_of t) [] Chosen 0 rows)) sources ∙ ap made (is.stays x) in (
            ap (λ (d : Database). d.schema) now,
            ap (λ (a : Trees). a t.tree) whole ∙ step.rows ∙ edit,
            λ tree other free. ap (λ (a : Trees). a tree) whole ∙ step.others tree other free,
            subst (λ (a : Trees). AreUnique l a) (sym whole) (all_at _ t.schema.tables t.place (table_of t) (step.fits.rules Unique not_foreign) is.there),
          )
