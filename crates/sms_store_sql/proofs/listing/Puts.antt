-- What it makes of a list that a row is put: the row of its key is changed in place, and where there is none the row is added.
use Rattle.std.proofs.Common.{◌≡◌, ◌<◌, ◌==◌, ℕ, true, refl, sym, ap, subst, ◌∙◌, arith}
use Rattle.std.proofs.lemmas.Bool.Decides.{nat_tests}
use Rattle.sqlite.specs.State.{State}
use Rattle.sms_rows.specs.table.Table.{Rises, insert, put}
use Rattle.sms_rows.proofs.table.Tables.{rises_put}
use Rattle.sms_store_sql.specs.listing.Listing.{ListOf, IsList, Represents}
use Rattle.sms_store_sql.specs.listing.Inside.{RanOn, Alters}
use Rattle.sms_store_sql.proofs.listing.Changed.{none_there, one_there}
use Rattle.sms_store_sql.proofs.listing.Statements.{inserts}
use Rattle.sms_store_sql.proofs.listing.Updates.{Turns, TurnsOne, updates}

module _ {X : Type 0} (l : ListOf X) (is : IsList l) (x : X) (fits : l.Fits x) where
  turns_one : TurnsOne l l.table.update (l.columns x) l.table.sets (l.key x) (λ y. x)
  turns_one = record {
    updates = is.updates;
    alone = is.updates_alone;
    finds = λ id y suits. is.meets x id y fits suits;
    gives_columns = λ id y. is.sets x id y;
    same_key = λ y same. sym (equal (l.key y) (l.key x) same);
    still_fits = λ y suits. fits;
  }
    where
      equal : (a b : ℕ) → (a == b) ≡ true → a ≡ b
      equal a b e = grind (arith, nat_tests, e)

  turned_by : (count : ℕ) (a b : State) → RanOn l.table.update (l.columns x) count a b → Turns l (l.key x) (λ y. x) count a b
  turned_by count a b h = updates l is l.table.update (l.columns x) l.table.sets (l.key x) (λ y. x) turns_one a b count h.ran

  -- a row of its key was there
  pub changes : (count : ℕ) (a b : State) → 0 < count → RanOn l.table.update (l.columns x) count a b → Alters l (put l.key x) a b
  changes count a b some h =
      let it = turned_by count a b h in
      record {
        inside = h.inside;
        schema = it.schema;
        changed = λ has xs held. subst (Represents l (b.now.trees l.table.tree)) (one_there l.key x xs held.rises (subst (λ n. 0 < n) (it.counted has xs held) some)) (it.changed has xs held);
        others = it.others;
      }

  -- none was, and the row is added
  pub adds : (more : ℕ) (a b c : State) → RanOn l.table.update (l.columns x) 0 a b → RanOn l.table.insert (l.columns x) more b c → Alters l (put l.key x) a c
  adds more a b c p q =
      let it = turned_by 0 a b p in
      let add = inserts l is b c x fits (record { count = more; ran = q.ran; inside = q.inside }) in
      record {
        inside = record { was_open = p.inside.was_open; is_open = q.inside.is_open; now_is = refl; committed_is = q.inside.committed_is ∙ p.inside.committed_is; mode = q.inside.mode };
        schema = λ has. add.schema (it.schema has);
        changed = λ has xs held.
            let none = none_there l.key x xs (sym (it.counted has xs held)) in
            let same : insert l.key x xs ≡ put l.key x xs = ap (insert l.key x) (sym none.1) in
            let mid = subst (Represents l (b.now.trees l.table.tree)) none.0 (it.changed has xs held) in
            subst (Represents l (c.now.trees l.table.tree)) same (add.changed (it.schema has) xs mid (subst (Rises l.key) (sym same) (rises_put l.key x xs held.rises)));
        others = λ has tree other free. add.others (it.schema has) tree other free ∙ it.others has tree other free;
      }
