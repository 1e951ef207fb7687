-- The row of a key, found by a query.
use Rattle.std.specs.Prelude.{◌≡◌, ℕ, ℤ, false, List, [], ◌∷◌, Option, Some, None}
use Rattle.sqlite.specs.declared.types.Value.TheVariants.{Int}
use Rattle.sqlite.specs.Order.{Row}
use Rattle.sqlite.specs.Command.TheVariants.{Select}
use Rattle.sqlite.specs.Listing.{understood, reads_listing}
use Rattle.sqlite_sql.specs.Term.{eval_all}
use Rattle.sqlite.proofs.Callers.{IsPlain, command_of}
use Rattle.sms_store_sql.specs.listing.Listing.{ListOf, rows_where}

-- What makes a text the one that finds the row of a key. All but the last holds by computation.
pub record FindsOne {X : Type 0} (l : ListOf X) (text : List ℕ) : Type 0 where
  pub selects : command_of (understood l.table.schema text)
      ≡ Select (record { lets = []; body = rows_where l.table.tree l.table.tests l.table.projected }) l.table.names
  pub alone : IsPlain (understood l.table.schema text)
  pub is_no_listing : reads_listing l.table.schema text ≡ false
  -- a row is read as its columns, whatever the key
  pub read : (params : Row) (id : ℤ) (x : X) → eval_all l.table.projected (params ∷ (Int id ∷ l.columns x) ∷ []) ≡ l.columns x

abbrev pub first_of : {X : Type 0} → List X → Option X
first_of [] = None
first_of (x ∷ xs) = Some x
