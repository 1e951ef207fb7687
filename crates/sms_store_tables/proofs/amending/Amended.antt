-- What the text that amends a row does.
use Rattle.std.proofs.Common.{◌≡◌, ℕ, [], ◌∷◌, ◌++◌, refl, sym, ap, subst, List, map}
use Rattle.sqlite.specs.Order.{Row}
use Rattle.sqlite.specs.Term.{Term}
use Rattle.sqlite.specs.State.{State}
use Rattle.sms_centre_rows.specs.declared.waiting.progress.Progress.{Progress}
use Rattle.sms_centre_rows.specs.waiting.Revisions.{amended}
use Rattle.sms_store_sql.specs.listing.Listing.{ListOf, IsList, Represents}
use Rattle.sms_store_sql.specs.listing.Inside.{Ran, Alters}
use Rattle.sms_store_sql.proofs.listing.Changed.{turned}
use Rattle.sms_store_sql.proofs.listing.Updates.{TurnsOne, updates}
use Rattle.sms_store_tables.specs.centre.Pieces.{IsStoredProgress}
use Rattle.sms_store_tables.specs.amending.Amending.{AmendsOne}

module _ {X : Type 0} (l : ListOf X) (is : IsList l) (text : List ℕ) (reaching : Progress → X → X) (written : Progress → Row) (shown : List Term) (one : AmendsOne l text reaching written shown) (n : ℕ) (q : Progress)
    (far : IsStoredProgress q) where
  amended_each : (xs : List X) → amended l.key reaching n q xs ≡ map (turned l.key n (reaching q)) xs
  amended_each [] = refl
  amended_each (x ∷ xs) = ap (λ rows. turned l.key n (reaching q) x ∷ rows) (amended_each xs)

  turns_one : TurnsOne l text (l.key_columns n ++ written q) shown n (reaching q)
  turns_one = record {
    updates = one.updates;
    alone = one.alone;
    finds = one.finds n q;
    gives_columns = one.gives_columns n q;
    same_key = λ x same. one.same_key q x;
    still_fits = λ x fits. one.still_fits q x far fits;
  }

  pub amends : (old new : State) → Ran text (l.key_columns n ++ written q) old new → Alters l (amended l.key reaching n q) old new
  amends old new h =
      let it = updates l is text (l.key_columns n ++ written q) shown n (reaching q) turns_one old new h.count h.ran in
      record {
        inside = h.inside;
        schema = it.schema;
        changed = λ has xs held. subst (Represents l (new.now.trees l.table.tree)) (sym (amended_each xs)) (it.changed has xs held);
        others = it.others;
      }
