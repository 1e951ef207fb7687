-- The error of a query says nothing about the rows that a store has.
use Rattle.std.proofs.Common.{◌≡◌, ◌⊎◌, inl, inr, ℕ, List, Option, Some, None, Result, Ok, Err, sym, subst, IfErr}
use Rattle.sqlite_trees.specs.declared.error.StoreError.{StoreError}
use Rattle.sqlite_trees.specs.declared.error.StoreError.TheVariants.{OutOfMemory, Io, Corrupt, Full, Broken, Unstorable}
use Rattle.sqlite_schema.specs.declared.command.Command.{Command}
use Rattle.sqlite_schema.specs.declared.command.Command.TheVariants.{Select, Rows}
use Rattle.sqlite.specs.declared.error.Error.{Error}
use Rattle.sqlite.specs.declared.error.ErrorCode.TheVariants as code
use Rattle.sqlite.specs.declared.error.Error.TheVariants.{SqliteFailure}
use Rattle.sqlite.specs.Effect.{Database, RefusesToRead}
use Rattle.sqlite.specs.Order.{Row}
use Rattle.sqlite.specs.Listing.{understood}
use Rattle.sqlite.specs.State.{State, FailsToQuery, FailsToShow, Fails, IsNoStatement, IsNotRun, IsTooLate, store_error}
use Rattle.sqlite.specs.Steps.{FailsToCommit}
use Rattle.sqlite.specs.Clock.{timed}
use Rattle.sqlite.proofs.Callers.{IsPlain}
use Rattle.sms_store_sql.specs.listing.Causes.{IsOfNoRow}
use Rattle.sms_store_sql.specs.listing.Reading.{LacksMemory}

-- an error that is another one
other : (e f : Error) → e ≡ f → IsOfNoRow f → IsOfNoRow e
other e f same h = subst IsOfNoRow (sym same) h

of_store : (cause : StoreError) → IsOfNoRow (store_error cause)
of_store OutOfMemory = λ e. cc
of_store Io = λ e. cc
of_store Corrupt = λ e. cc
of_store Full = λ e. cc
of_store Broken = λ e. cc
of_store Unstorable = λ e. cc

pub of_memory : (e : Error) → LacksMemory e → IsOfNoRow e
of_memory e lacks = other e _ lacks (λ e. cc)

of_failure : (old new : State) (Big : Type 0) (e : Error) → Fails old new Big e → IsOfNoRow e
of_failure old new Big e h = other e _ h.1 (of_store h.0)

of_text : (s : State) (sql : List ℕ) (params : Row) (e : Error) → IsNoStatement s sql params e → IsOfNoRow e
of_text s sql params e (inl h) = other e _ h.2 (λ e. cc)
of_text s sql params e (inr h) = elim h.2 [
  | inl many ↦ other e _ many.1 (λ e. cc)
  | inr single ↦ elim single [ inl few ↦ other e _ few.1 (λ e. cc) | inr timed ↦ other e _ timed.1 (λ e. cc) ]
]

of_reading : (limit : Option ℕ) (command : Command) (db : Database) (params : Row) (e : Error) → RefusesToRead limit command db params e → IsOfNoRow e
of_reading limit (Select q names) db params e (inl h) = other e _ h.0 (λ e. cc)
of_reading limit (Select q names) db params e (inr (inl h)) = other e _ h.0 (λ e. cc)
of_reading limit (Select q names) db params e (inr (inr h)) = other e _ h.0 (λ e. cc)
of_reading limit (Rows values width names) db params e h = other e _ h.0 (λ e. cc)
of_reading limit _ db params e h = other e _ h (λ e. cc)

-- a query, also one that a failure before it made too late
pub of_query : (sql : List ℕ) (params : Row) (old new : State) (e : Error) → IsPlain (understood old.now.schema sql)
    → FailsToQuery sql params old new e ⊎ IsTooLate sql params old new e → IsOfNoRow e
unfolding FailsToQuery IsNotRun
of_query sql params old new e plain (inl (inl (inl h))) = of_text old sql params e h.0
of_query sql params old new e plain (inl (inl (inr h))) = of_failure old new ⊥ e h
of_query sql params old new e plain (inl (inr h)) =
    let none = (subst IsPlain h.1.is plain).0 in
    let it = subst (FailsToShow old new sql h.0 (timed params h.0.formats h.1.now) e) none h.2 in
    of_reading old.step_limit h.0.command it.0 _ e it.2
of_query sql params old new e plain (inr h) = other e _ h.4 (λ e. cc)

pub of_commit : (old new : State) (e : Error) → FailsToCommit old new e → IsOfNoRow e
of_commit old new e (inl h) = of_failure old new ⊥ e h
of_commit old new e (inr h) = other e _ h.0 (λ e. cc)

-- where a call is refused for want of memory alone, its error says nothing about rows
pub of_memory_alone : {A : Type 0} (r : Result A Error) → IfErr r LacksMemory → IfErr r IsOfNoRow
of_memory_alone (Ok a) h = tt
of_memory_alone (Err e) h = of_memory e h

pub of_query_alone : {A : Type 0} (sql : List ℕ) (params : Row) (old new : State) (r : Result A Error) → IsPlain (understood old.now.schema sql)
    → IfErr r (λ e. FailsToQuery sql params old new e ⊎ IsTooLate sql params old new e) → IfErr r IsOfNoRow
of_query_alone sql params old new (Ok a) plain h = tt
of_query_alone sql params old new (Err e) plain h = of_query sql params old new e plain h

-- a key that no row has is too big
pub of_big : (e : Error) → e ≡ SqliteFailure code.TooBig → IsOfNoRow e
of_big e big = other e _ big (λ e. cc)
