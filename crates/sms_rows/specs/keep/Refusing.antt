-- What a store says of the calls that it refused.
use Rattle.std.specs.Prelude.{◌≡◌, ◌+◌, ◌%◌, ◌^◌, ℕ, Some, None, Result, Ok, Err}
use Rattle.sms_rows.specs.declared.keep.refusals.Refusals.{Refusals}

abbrev pub no_refusals : Refusals
no_refusals = record { calls = 0; read = None }

-- one more, as a number of 64 bits counts
abbrev pub one_more : ℕ → ℕ
one_more n = (n + 1) % 2 ^ 64

-- a call was refused
abbrev pub with_call : Refusals → Refusals
with_call r = record r { calls = one_more r.calls }

-- the read of the body of that key was refused
abbrev pub with_read : ℕ → Refusals → Refusals
with_read key r = record { calls = one_more r.calls; read = Some key }

-- the read of a body was answered
abbrev pub with_answer : Refusals → Refusals
with_answer r = record r { read = None }

-- of a call that is no read of a body: it counts where it was refused
abbrev pub Counts : {A E : Type 0} → Result A E → Refusals → Refusals → Type 0
Counts (Ok value) before after = after ≡ before
Counts (Err error) before after = after ≡ with_call before

-- of the read of the body of that key
abbrev pub CountsRead : {A E : Type 0} → ℕ → Result A E → Refusals → Refusals → Type 0
CountsRead key (Ok body) before after = after ≡ with_answer before
CountsRead key (Err error) before after = after ≡ with_read key before
