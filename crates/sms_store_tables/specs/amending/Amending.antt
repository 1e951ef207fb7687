-- A text that changes how far one row of a list is.
use Rattle.std.specs.Prelude.{◌≡◌, ℕ, ◌==◌, ℤ, List, [], ◌∷◌, ◌++◌}
use Rattle.std.specs.List.{list_all}
use Rattle.sqlite.specs.declared.types.Value.TheVariants.{Int}
use Rattle.sqlite.specs.Order.{Row}
use Rattle.sqlite.specs.Term.{Term, col, holds}
use Rattle.sqlite.specs.Command.TheVariants.{Update}
use Rattle.sqlite.specs.Listing.{understood}
use Rattle.sqlite_sql.specs.Term.{eval_all}
use Rattle.sqlite.proofs.Callers.{IsPlain, command_of}
use Rattle.sms_store_sql.specs.listing.Listing.{rows_where, ListOf}
use Rattle.sms_store_sql.specs.tabled.Tabled.{IsCompiledTo}
use Rattle.sms_store_tables.specs.centre.Pieces.{IsStoredProgress}
use Rattle.sms_centre_rows.specs.declared.waiting.progress.Progress.{Progress}

module _ {X : Type 0} (l : ListOf X) where
  -- the text is compiled to the change of a row that reads its rowid, and writes that rowid and these columns
  abbrev pub ChangesColumns : List ℕ → List Term → Type 0
  ChangesColumns text shown =
      IsCompiledTo l.table text
      (Update l.table.place (record { lets = []; body = rows_where l.table.tree l.table.tests (col 1 0 ∷ col 1 0 ∷ shown) }))

  -- the row of the key is found, whatever is to be written
  abbrev pub FindsToAmend : (Progress → Row) → Type 0
  FindsToAmend written =
      (n : ℕ) (q : Progress) (id : ℤ) (x : X) → l.Fits x
      → list_all (holds ((l.key_columns n ++ written q) ∷ (Int id ∷ l.columns x) ∷ [])) l.table.tests ≡ (l.key x == n)

-- What makes a text the one that changes how far the row of a key is. The key is before the progress among its values; the
-- first two hold by computation.
pub record AmendsOne {X : Type 0} (l : ListOf X) (text : List ℕ) (reaching : Progress → X → X) (written : Progress → Row) (shown : List Term) : Type 0 where
  -- it reads the rowid, and writes that rowid and these columns
  pub updates : command_of (understood l.table.schema text)
      ≡ Update l.table.place (record { lets = []; body = rows_where l.table.tree l.table.tests (col 1 0 ∷ col 1 0 ∷ shown) })
  pub alone : IsPlain (understood l.table.schema text)
  pub finds : FindsToAmend l written
  -- its columns are then those of the row that is so far
  pub gives_columns : (n : ℕ) (q : Progress) (id : ℤ) (x : X)
      → eval_all shown ((l.key_columns n ++ written q) ∷ (Int id ∷ l.columns x) ∷ []) ≡ l.columns (reaching q x)
  pub same_key : (q : Progress) (x : X) → l.key (reaching q x) ≡ l.key x
  pub still_fits : (q : Progress) (x : X) → IsStoredProgress q → l.Fits x → l.Fits (reaching q x)
