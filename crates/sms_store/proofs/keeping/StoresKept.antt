-- What is so of the stores of any side.
use Rattle.std.proofs.Common.{◌≡◌, length, refl, sym, ap, subst, ◌∙◌, false}
use Rattle.sqlite.specs.Effect.{Database}
use Rattle.sqlite.specs.Schema.{Schema}
use Rattle.sqlite.specs.State.{State, Shows}
use Rattle.sms_store_sql.specs.listing.Transaction.{Committed, IsOpenStore}
use Rattle.sms_store_sql.specs.schema.Blank.{no_tables}
use Rattle.sms_store.specs.keeping.Stores.{StoresOf, IsStoreWith, Turns, Founds, AreStores}

module _ {P R : Type 0} (of : StoresOf P R) where
  -- a store has tables
  pub not_blank : AreStores of → no_tables ≡ of.schema → ⊥
  not_blank lawful same = lawful.some_tables (sym (ap (λ (s : Schema). length s.tables) same))

  -- the setup is as it was, if the change leaves it
  pub turns_with : (change : R → R) → ((rows : R) → of.setup_of (change rows) ≡ of.setup_of rows) → (setup : P) (a b : Database) (rows : R)
      → Turns of change a b → IsStoreWith of setup a rows → IsStoreWith of setup b (change rows)
  turns_with change same setup a b rows turns is = (turns rows is.0, same rows ∙ is.1)

  -- what is shown is kept
  pub kept_still : (setup : P) (old new : State) (rows : R) → Shows old new old.now old.now false → IsStoreWith of setup old.now rows
      → IsOpenStore (IsStoreWith of setup) new rows
  kept_still setup old new rows shows is = record {
    is_open = shows.is_open;
    autocommit = shows.mode;
    settled = shows.now_is ∙ sym shows.committed_is;
    store = subst (λ (db : Database). IsStoreWith of setup db rows) (sym shows.now_is) is;
  }

  -- what was founded is kept
  pub kept_founded : AreStores of → (setup : P) (old new : State) → Committed (Founds of) old new → old.now.schema ≡ no_tables
      → IsOpenStore (IsStoreWith of setup) new (of.first_rows setup)
  kept_founded lawful setup old new made none = record {
    is_open = made.inside.is_open;
    autocommit = made.inside.mode;
    settled = sym made.inside.committed_is;
    store = (made.changed none setup, lawful.first_setup setup);
  }
