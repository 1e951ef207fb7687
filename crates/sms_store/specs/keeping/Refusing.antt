-- What a store says of itself, and which database is refused for it.
use Rattle.std.specs.Prelude.{◌≡◌, ℕ, List, Result, Ok, Err, ⊤}
use Rattle.sqlite.specs.Effect.{Database}
use Rattle.sqlite.specs.Schema.{Schema}
use Rattle.sms_rows.specs.declared.keep.error.KeepError.{KeepError}
use Rattle.sms_rows.specs.declared.keep.error.KeepError.TheVariants.{OldVersion, NotThisStore}
use Rattle.sms_store_sql.specs.declared.listing.meta.Meta.{Meta}
use Rattle.sms_store_sql.specs.declared.listing.meta.StoreKind.{StoreKind}
use Rattle.sms_store_sql.specs.listing.Listing.{ListOf, Represents}
use Rattle.sms_store_sql.specs.schema.Judged.{judged}

-- The tables are these, and what it says of itself is judged so by one who wants a store of that kind and version.
pub record Says (schema : Schema) (l : ListOf Meta) (kind : StoreKind) (version : ℕ) (judgement : Result (Unit {0}) KeepError) (db : Database) : Type 0 where
  pub tables : db.schema ≡ schema
  pub said : (said : List Meta) → Represents l (db.trees 0) said → judged kind version said ≡ judgement

-- how what a store says of itself is judged
abbrev pub FindsJudgement : ListOf Meta → StoreKind → ℕ → Database → Result (Unit {0}) KeepError → Type 0
FindsJudgement l kind version db found = (said : List Meta) → Represents l (db.trees 0) said → found ≡ judged kind version said

-- An earlier version is refused for one reason, no such store for another, and every other error says nothing of the database.
abbrev pub RefusesBy : (Database → Type 0) → (Database → Type 0) → KeepError → Database → Type 0
RefusesBy IsOld IsOther OldVersion db = IsOld db
RefusesBy IsOld IsOther NotThisStore db = IsOther db
RefusesBy IsOld IsOther _ db = ⊤

-- Tables are refused that one who wants this kind and version knows, by what the store says of itself, and by nothing else.
abbrev pub RefusesSaid : Schema → ListOf Meta → StoreKind → ℕ → KeepError → Database → Type 0
RefusesSaid schema l kind version =
    RefusesBy (Says schema l kind version (Err OldVersion)) (Says schema l kind version (Err NotThisStore))
