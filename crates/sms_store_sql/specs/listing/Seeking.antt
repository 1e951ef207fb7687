-- The rows of a number that is not their key, found by a query.
use Rattle.std.specs.Prelude.{◌≡◌, ℕ, ◌==◌, ℤ, false, List, [], ◌∷◌}
use Rattle.std.specs.List.{list_all}
use Rattle.sqlite.specs.declared.types.Value.TheVariants.{Int}
use Rattle.sqlite.specs.Order.{Row}
use Rattle.sqlite.specs.Term.{Term, holds}
use Rattle.sqlite.specs.Command.TheVariants.{Select}
use Rattle.sqlite.specs.Listing.{understood, reads_listing}
use Rattle.sqlite_sql.specs.Term.{eval_all}
use Rattle.sqlite.proofs.Callers.{IsPlain, command_of}
use Rattle.sms_store_sql.specs.listing.Columns.{number}
use Rattle.sms_store_sql.specs.listing.Listing.{rows_where, ListOf}

-- What makes a text the one that finds the rows of a number. The first three hold by computation.
pub record SeeksBy {X : Type 0} (l : ListOf X) (mark : X → ℕ) (text : List ℕ) (tests : List Term) : Type 0 where
  pub selects : command_of (understood l.table.schema text)
      ≡ Select (record { lets = []; body = rows_where l.table.tree tests l.table.projected }) l.table.names
  pub alone : IsPlain (understood l.table.schema text)
  pub is_no_listing : reads_listing l.table.schema text ≡ false
  -- the number finds the rows that have it, and no other
  pub finds : (n : ℕ) (id : ℤ) (x : X) → l.Fits x → list_all (holds ((number n ∷ []) ∷ (Int id ∷ l.columns x) ∷ [])) tests ≡ (mark x == n)
  -- a row is read as its columns, whatever the number
  pub read : (params : Row) (id : ℤ) (x : X) → eval_all l.table.projected (params ∷ (Int id ∷ l.columns x) ∷ []) ≡ l.columns x
