-- Steps of results and of loops.
use Rattle.std.proofs.Common.{Result, Ok, Err, OnOk, IfOk}

-- what is told of success, told otherwise
pub if_ok : {X E : Type 0} {P Q : Type 0} (r : Result X E) → OnOk r P → (P → Q) → OnOk r Q
if_ok (Ok x) p f = f p
if_ok (Err e) p f = p

pub if_all : {X E : Type 0} {P Q : X → Type 0} (r : Result X E) → IfOk r P → ((x : X) → P x → Q x) → IfOk r Q
if_all (Ok x) p f = f x p
if_all (Err e) p f = p
