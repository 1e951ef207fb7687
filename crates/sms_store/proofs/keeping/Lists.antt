-- Lists in the stores of any side.
use Rattle.std.proofs.Common.{◌≡◌, List, [], IsTrue, false, refl, sym, subst, ◌∙◌}
use Rattle.std.proofs.lemmas.List.Sorted.{IsPermutation-refl}
use Rattle.sqlite.specs.Order.{Row}
use Rattle.sqlite.specs.Schema.{Schema}
use Rattle.sqlite.specs.State.{State}
use Rattle.sqlite_rules.specs.Edit.{IsNoIndex}
use Rattle.sms_store_sql.specs.listing.Inside.{Alters}
use Rattle.sms_store_sql.specs.listing.Listing.{ListOf, Represents}
use Rattle.sms_store_sql.specs.listing.Transaction.{Leads}
use Rattle.sms_store_sql.proofs.listing.Apart.{is_no_index, is_other, meets}
use Rattle.sms_store.specs.keeping.Stores.{StoresOf, Turns}

pub holds_none : {X : Type 0} (l : ListOf X) (rows : List Row) → rows ≡ [] → Represents l rows []
holds_none l rows none = record { entries = []; keyed = tt; stored = none; listed = IsPermutation-refl []; rises = tt; fit = tt }

module _ {P R : Type 0} (of : StoresOf P R) where
  -- steps one after another
  pub turns_none : (s : State) → IsTrue s.is_open → IsTrue s.in_transaction → Leads (Turns of (λ rows. rows)) s s
  turns_none s live inside = record {
    inside = record { was_open = live; is_open = live; now_is = refl; committed_is = refl; mode = inside };
    changed = λ rows h. h;
  }

  pub turns_then : (a b c : State) (f g : R → R) → Leads (Turns of f) a b → Leads (Turns of g) b c → Leads (Turns of (λ rows. g (f rows))) a c
  turns_then a b c f g p q = record {
    inside = record { was_open = p.inside.was_open; is_open = q.inside.is_open; now_is = refl; committed_is = q.inside.committed_is ∙ p.inside.committed_is; mode = q.inside.mode };
    changed = λ rows h. q.changed (f rows) (p.changed rows h);
  }

module _ {X : Type 0} (l : ListOf X) (schema : Schema) (here : l.table.schema ≡ schema) (change : List X → List X) (old new : State) (alters : Alters l change old new) (has : old.now.schema ≡ schema) where
  -- every other list is as it was
  pub other_list : {Y : Type 0} (m : ListOf Y) (ys : List Y) → meets schema l.table.tree m.table.tree ≡ false → Represents m (old.now.trees m.table.tree) ys
      → Represents m (new.now.trees m.table.tree) ys
  other_list m ys apart held =
      let free = is_no_index schema l.table.tree m.table.tree apart in
      let same = alters.others (has ∙ sym here) m.table.tree (is_other schema l.table.tree m.table.tree apart) (subst (λ s. IsNoIndex s m.table.tree) (sym here) free) in
      subst (λ rows. Represents m rows ys) (sym same) held
