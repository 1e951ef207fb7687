-- What a stop leaves as a keep is opened, step by step.
use Rattle.std.proofs.Common.{◌≡◌, ◌⊎◌, inl, inr, false, IsTrue, sym, ap, ◌∙◌}
use Rattle.sqlite.specs.Effect.{Database}
use Rattle.sqlite.specs.State.{State, Shows}
use Rattle.sqlite.specs.Tree.{Trees}
use Rattle.sms_store_sql.specs.listing.Transaction.{Leaves}
use Rattle.sms_store_sql.specs.schema.Blank.{no_tables}
use Rattle.sms_store.specs.keeping.Opened.{IsAsItWas, IsLeft}
use Rattle.sms_store.specs.keeping.Stores.{StoresOf, Founds, AreStores}
use Rattle.sms_store.proofs.keeping.StoresKept.{not_blank}

-- while a connection is open, a stop leaves what was committed
abbrev pub Settles : State → Type 0
Settles s = (db : Trees) → IsTrue s.is_open → s.may_leave db → db ≡ s.committed.trees

pub trees_of : (a b : Database) → a ≡ b → a.trees ≡ b.trees
trees_of a b same = ap (λ (d : Database). d.trees) same

module _ {P R : Type 0} (of : StoresOf P R) where
  -- everything is as it was
  pub left_as_it_was : (old : State) (left : Trees) → (IsTrue old.is_open → old.now ≡ old.committed → left ≡ old.now.trees) → IsLeft of old left
  left_as_it_was old left same = record {
    current = λ rows kept. same kept.is_open kept.settled;
    earlier = λ rows kept. inl (same kept.is_open kept.settled);
    blank = λ setup kept. inl (same kept.is_open kept.settled);
  }

  -- nothing was called
  pub left_alone : (old : State) (left : Trees) → Settles old → old.may_leave left → IsLeft of old left
  left_alone old left settles may = left_as_it_was old left (λ is_open settled. settles left is_open may ∙ sym (trees_of _ _ settled))

  -- something was read
  pub left_by_look : (old new : State) (left : Trees) → Settles old → (new.may_leave left → old.may_leave left ⊎ (left ≡ old.now.trees)) → new.may_leave left → IsLeft of old left
  left_by_look old new left settles leaves may = elim (leaves may) [
    | inl before ↦ left_alone old left settles before
    | inr same ↦ left_as_it_was old left (λ _ _. same)
  ]

  -- the tables were made
  pub left_by_founding : AreStores of → (old new : State) (left : Trees) → Settles old → old.now.schema ≡ no_tables
      → (new.may_leave left → old.may_leave left ⊎ (IsTrue old.is_open → Leaves (Founds of) old left)) → new.may_leave left → IsLeft of old left
  left_by_founding lawful old new left settles none leaves may = elim (leaves may) [
    | inl before ↦ left_alone old left settles before
    | inr made ↦ record {
      current = λ rows kept. absurd (not_blank of lawful (sym none ∙ lawful.tables old.now rows kept.store));
      earlier = λ rows kept. absurd (lawful.earlier_tables old.now rows kept.store none);
      blank = λ setup kept. let it = made kept.is_open in inr (it.0, it.1, it.2 none setup);
    }
  ]

-- a look that was refused afterwards
pub shown_as_it_was : (old new : State) → Shows old new old.now old.now false → IsAsItWas old new
shown_as_it_was old new shows settled is_open = (shows.now_is, shows.committed_is ∙ settled)
