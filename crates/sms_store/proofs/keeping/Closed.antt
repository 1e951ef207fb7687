-- What a keep that was closed leaves is found by the next one.
use Rattle.std.proofs.Common.{◌≡◌, inl, inr, ℕ, suc, List, [], ◌∷◌, length, refl, sym, ap, subst, ◌∙◌}
use Rattle.std.proofs.Math.Logic.{∥∥₁_elim}
use Rattle.std.specs.List.{AllZip}
use Rattle.std.specs.Prelude.{filter}
use Rattle.sqlite_disk.specs.declared.Disk.{Ghosts}
use Rattle.sqlite_disk.specs.declared.Files.{Files}
use Rattle.sqlite_wal.specs.Files.{outcomes}
use Rattle.sqlite_wal.specs.Recovery.{Image}
use Rattle.sqlite_catalog.specs.Listing.{IsTableRow, is_table_row}
use Rattle.sqlite_trees.specs.Objects.{catalog_tree}
use Rattle.sqlite_trees.specs.Props.{Trees-set}
use Rattle.sqlite.specs.Closing.{HoldsAlone}
use Rattle.sqlite.specs.Effect.{Database, IsDatabase}
use Rattle.sqlite.specs.Files.{image_of}
use Rattle.sqlite.specs.Schema.{Schema}
use Rattle.sqlite.specs.State.{State}
use Rattle.sqlite.specs.Tree.{Trees}
use Rattle.sms_store_sql.specs.listing.Transaction.{IsOpenStore}
use Rattle.sms_store_sql.specs.schema.Blank.{no_tables}
use Rattle.sms_store.specs.keeping.Closing.{HoldsStore, IsWhole}
use Rattle.sms_store.specs.keeping.Opened.{IsIn, Opened}
use Rattle.sms_store.specs.keeping.Stores.{StoresOf, AreStores, IsStoreWith}

-- lists of which each place is tied to one are as long
zip_lengths : {A B : Type 0} (R : A → B → Type 0) (xs : List A) (ys : List B) → AllZip R xs ys → length xs ≡ length ys
zip_lengths R [] [] zip = refl
zip_lengths R [] (y ∷ ys) zip = absurd zip
zip_lengths R (x ∷ xs) [] zip = absurd zip
zip_lengths R (x ∷ xs) (y ∷ ys) zip = ap suc (zip_lengths R xs ys zip.1)

-- databases of the same trees have as many tables
tables_alike : (a b : Database) → IsDatabase a → IsDatabase b → a.trees ≡ b.trees → length a.schema.tables ≡ length b.schema.tables
tables_alike a b one other same =
    sym (zip_lengths IsTableRow _ _ one.lists.listed.tables)
    ∙ (ap (λ (trees : Trees). length (filter is_table_row (trees catalog_tree))) same ∙ zip_lengths IsTableRow _ _ other.lists.listed.tables)

module _ {P R : Type 0} (of : StoresOf P R) where
  module _ (lawful : AreStores of) (image : Image) (rows : R) (old : Database) (holds : HoldsStore of image rows) (is : IsDatabase old) (found : IsIn image old) where
    -- the contents of the files hold one database
    pub same_trees : old.trees ≡ holds.0.trees
    same_trees = ∥∥₁_elim holds.3 (Trees-set _ _) (found holds.0.trees)

    -- which has as many tables as such a store
    pub as_many_tables : length old.schema.tables ≡ length of.schema.tables
    as_many_tables = tables_alike old holds.0 is holds.1 same_trees ∙ ap (λ (schema : Schema). length schema.tables) (lawful.tables holds.0 rows holds.2)

    pub not_without : old.schema ≡ no_tables → ⊥
    not_without none = lawful.some_tables (sym as_many_tables ∙ ap (λ (schema : Schema). length schema.tables) none)

    -- it is the store of the rows, with the setup that is handed in
    pub still_store : (setup : P) → of.IsOurs old → IsStoreWith of setup old (of.with_setup setup rows)
    still_store setup ours = lawful.by_trees holds.0 old rows setup (lawful.our_tables old ours) same_trees holds.2

    pub found_again : (setup : P) (s : State) → Opened of setup old s → IsOpenStore (IsStoreWith of setup) s (of.with_setup setup rows)
    found_again setup s opened = elim opened.ours [
      | inl none ↦ absurd (not_without none)
      | inr ours ↦ opened.unchanged _ (still_store setup ours)
    ]

  -- So a database is left that both files hold, and the database file alone, as it is and as a stop may leave it.
  pub left_whole : {D : Type 0} (g : Ghosts D) (files : Files D) (db : Database) (rows : R) → IsDatabase db → of.IsStore db rows → HoldsAlone (image_of g files) db.trees
      → ((image : Image) → outcomes g files.log files.db image → HoldsAlone image db.trees) → IsWhole of g files rows
  left_whole g files db rows is store seen left = record {
    both = (db, is, store, seen.both);
    alone = (db, is, store, seen.alone);
    left = λ image may. (db, is, store, (left image may).alone);
  }

  -- the database of a store that is open is the one that was committed
  pub store_committed : (setup : P) (s : State) (rows : R) → IsOpenStore (IsStoreWith of setup) s rows → of.IsStore s.committed rows
  store_committed setup s rows held = subst (λ (db : Database). of.IsStore db rows) held.settled held.store.0
