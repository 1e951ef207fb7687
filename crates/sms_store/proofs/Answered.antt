-- What answers and refusals say.
use Rattle.std.proofs.Common.{Option, None, Some, MatchOption, Result, Ok, Err, OnOk, OnErr, IfOk, IfErr}
use Rattle.sms_rows.specs.declared.keep.error.KeepError.{KeepError}

-- a judgement, where it is an answer
pub ended_ok : {A : Type 0} (j : Result (Unit {0}) KeepError) (P : Result (Unit {0}) KeepError → Type 0) → A → P j → OnOk j (A × P (Ok tt))
ended_ok (Ok tt) P a told = (a, told)
ended_ok (Err e) P a told = tt

-- and where it is a refusal
pub ended_err : (j : Result (Unit {0}) KeepError) (P : Result (Unit {0}) KeepError → Type 0) (Q : KeepError → Type 0) → ((e : KeepError) → P (Err e) → Q e) → P j → IfErr j Q
ended_err (Ok u) P Q f told = tt
ended_err (Err e) P Q f told = f e told

pub if_err : {X E : Type 0} {P Q : E → Type 0} (r : Result X E) → ((e : E) → P e → Q e) → IfErr r P → IfErr r Q
if_err (Ok x) f h = tt
if_err (Err e) f h = f e h

-- what a refusal says, and what is so where it is one
pub err_both : {X E : Type 0} {P Q : E → Type 0} {A : Type 0} (r : Result X E) → ((e : E) → P e → A → Q e) → IfErr r P → OnErr r A → IfErr r Q
err_both (Ok x) f p a = tt
err_both (Err e) f p a = f e p a

-- what is so of the connection of a refusal, if there is one
pub some_refused : {A : Type 0} {P Q : A → Type 0} (N : Type 0) (o : Option A) → ((x : A) → P x → Q x) → MatchOption o N P → MatchOption o N Q
some_refused N None f h = h
some_refused N (Some x) f h = f x h
