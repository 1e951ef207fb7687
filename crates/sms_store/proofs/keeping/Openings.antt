-- What is kept of a database that was opened, and why one is refused.
use Rattle.std.proofs.Common.{◌≡◌, ◌⊎◌, inl, inr, false, ℕ, refl, sym, ◌∙◌, Result, Ok, Err}
use Rattle.sqlite.specs.Schema.{Schema}
use Rattle.sqlite.specs.Effect.{Database}
use Rattle.sqlite.specs.State.{State, Shows}
use Rattle.sms_rows.specs.declared.keep.error.KeepError.{KeepError}
use Rattle.sms_rows.specs.declared.keep.error.KeepError.TheVariants.{OldVersion, NotThisStore, Disk, Full, NoMemory, Interrupted, Closed}
use Rattle.sms_store_sql.specs.declared.listing.meta.Meta.{Meta}
use Rattle.sms_store_sql.specs.declared.listing.meta.StoreKind.{StoreKind}
use Rattle.sms_store_sql.specs.listing.Causes.{IsOfNoStore}
use Rattle.sms_store_sql.specs.listing.Listing.{ListOf}
use Rattle.sms_store_sql.specs.listing.Transaction.{IsOpenStore}
use Rattle.sms_store_sql.specs.schema.Blank.{no_tables}
use Rattle.sms_store.specs.keeping.Opened.{Opened}
use Rattle.sms_store.specs.keeping.Refusing.{Says, FindsJudgement, RefusesBy, RefusesSaid}
use Rattle.sms_store.specs.keeping.Stores.{StoresOf, IsStoreWith, AreStores}
use Rattle.sms_store.proofs.keeping.StoresKept.{kept_still, not_blank}

module _ {P R : Type 0} (of : StoresOf P R) (lawful : AreStores of) where
  -- a database without tables
  pub opened_blank : (setup : P) (old new : State) → old.now.schema ≡ no_tables → IsOpenStore (IsStoreWith of setup) new (of.first_rows setup)
      → Opened of setup old.now new
  opened_blank setup old new none kept = record {
    founded = λ _. kept;
    unchanged = λ rows is. absurd (not_blank of lawful (sym none ∙ lawful.tables old.now rows is.0));
    ours = inl none;
  }

  -- one with the tables of such a store
  pub opened_ours : (setup : P) (old new : State) → old.now.schema ≡ of.schema → Shows old new old.now old.now false → of.IsOurs old.now
      → Opened of setup old.now new
  opened_ours setup old new ours shows says = record {
    founded = λ none. absurd (not_blank of lawful (sym none ∙ ours));
    unchanged = λ rows is. kept_still of setup old new rows shows is;
    ours = inr says;
  }

-- what a store says of itself is judged as it was found
pub says_judged : (schema : Schema) (l : ListOf Meta) (kind : StoreKind) (version : ℕ) (db : Database) (judgement : Result (Unit {0}) KeepError) → db.schema ≡ schema
    → FindsJudgement l kind version db judgement → Says schema l kind version judgement db
says_judged schema l kind version db judgement ours finds = record { tables = ours; said = λ said held. sym (finds said held) }

-- one who refuses for these reasons refuses for those
pub refuses_for : (A B C D : Database → Type 0) (db : Database) → (A db → C db) → (B db → D db) → (error : KeepError) → RefusesBy A B error db → RefusesBy C D error db
refuses_for A B C D db old other OldVersion h = old h
refuses_for A B C D db old other NotThisStore h = other h
refuses_for A B C D db old other Disk h = tt
refuses_for A B C D db old other Full h = tt
refuses_for A B C D db old other NoMemory h = tt
refuses_for A B C D db old other Interrupted h = tt
refuses_for A B C D db old other Closed h = tt

-- and for no reason, where the error says nothing of a store
pub refuses_otherwise : (A B : Database → Type 0) (db : Database) (error : KeepError) → IsOfNoStore error → RefusesBy A B error db
refuses_otherwise A B db OldVersion other = absurd (other.0 refl)
refuses_otherwise A B db NotThisStore other = absurd (other.1 refl)
refuses_otherwise A B db Disk other = tt
refuses_otherwise A B db Full other = tt
refuses_otherwise A B db NoMemory other = tt
refuses_otherwise A B db Interrupted other = tt
refuses_otherwise A B db Closed other = tt

-- a refusal by what the store says is true
pub refuses_said : (schema : Schema) (l : ListOf Meta) (kind : StoreKind) (version : ℕ) (db : Database) (error : KeepError)
    → Says schema l kind version (Err error) db → RefusesSaid schema l kind version error db
refuses_said schema l kind version db OldVersion says = says
refuses_said schema l kind version db NotThisStore says = says
refuses_said schema l kind version db Disk says = tt
refuses_said schema l kind version db Full says = tt
refuses_said schema l kind version db NoMemory says = tt
refuses_said schema l kind version db Interrupted says = tt
refuses_said schema l kind version db Closed says = tt

-- and so is one by what was found of it, or by nothing of it
pub refuses_found : (schema : Schema) (l : ListOf Meta) (kind : StoreKind) (version : ℕ) (db : Database) (error : KeepError) → db.schema ≡ schema
    → IsOfNoStore error ⊎ FindsJudgement l kind version db (Err error) → RefusesSaid schema l kind version error db
refuses_found schema l kind version db error ours (inl other) = refuses_otherwise _ _ db error other
refuses_found schema l kind version db error ours (inr finds) = refuses_said schema l kind version db error (says_judged schema l kind version db (Err error) ours finds)
