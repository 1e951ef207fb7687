-- Calls that were refused memory, and calls that went.
use Rattle.std.proofs.Common.{◌≡◌, false, Result, Ok, Err, refl}
use Rattle.std.specs.Prelude.{IsErrAnd, OnOk, IfOk, MatchResult, is_ok}
use Rattle.smsc_loop.specs.Calls.{Goes}

pub goes_ok : {A E : Type 0} (P : Type 0) (r : Result A E) → OnOk r P → Goes (is_ok r) P
goes_ok P (Ok x) p = p
goes_ok P (Err e) p = tt

pub not_ok : {A E : Type 0} (Q : E → Type 0) (r : Result A E) → IsErrAnd r Q → is_ok r ≡ false
not_ok Q (Ok x) h = absurd h
not_ok Q (Err e) h = refl

pub if_refused : {A E : Type 0} (Q : E → Type 0) (P : A → Type 0) (r : Result A E) → IsErrAnd r Q → IfOk r P
if_refused Q P (Ok x) h = absurd h
if_refused Q P (Err e) h = tt

pub match_refused : {A E : Type 0} (Q : E → Type 0) (P : A → Type 0) (X : Type 0) (r : Result A E) → IsErrAnd r Q → X → MatchResult r P (λ error. X)
match_refused Q P X (Ok x) h y = absurd h
match_refused Q P X (Err e) h y = y
