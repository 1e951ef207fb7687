-- A query of one of these texts commits nothing.
use Rattle.std.proofs.Common.{◌⊎◌, inl, List, Result, Ok, Err, IfOk, IfErr, ℕ}
use Rattle.sqlite.specs.declared.error.Error.{Error}
use Rattle.sqlite.specs.Order.{Row}
use Rattle.sqlite.specs.Listing.{understood}
use Rattle.sqlite.specs.State.{State, Shown, FailsToQuery, IsTooLate, KeepsCommit}
use Rattle.sqlite.proofs.Callers.{IsPlain}
use Rattle.sms_store_sql.proofs.listing.Found.{shown_unchanged, keeps_if, keeps_if_refused}

pub query_keeps : {V : Type 0} (rows : V → List Row) (sql : List ℕ) (params : Row) (old new : State) (r : Result V Error) → IsPlain (understood old.now.schema sql)
    → IfOk r (λ v. Shown sql params old new (rows v)) → IfErr r (λ e. FailsToQuery sql params old new e ⊎ IsTooLate sql params old new e) → KeepsCommit old new
query_keeps rows sql params old new (Ok v) plain shown failed = keeps_if old new (inl (shown_unchanged sql params old new (rows v) plain shown))
query_keeps rows sql params old new (Err e) plain shown failed = keeps_if_refused sql params old new e failed
