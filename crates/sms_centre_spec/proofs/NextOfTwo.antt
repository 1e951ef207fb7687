-- When attempts are tried again, and which of two is next.
use Rattle.std.proofs.Common.{◌≡◌, ℕ, ◌+◌, [], ◌∷◌, Some, None, refl}
use Rattle.sms_centre_rows.specs.declared.waiting.queued_part.QueuedPart.{QueuedPart}
use Rattle.sms_centre_rows.specs.waiting.Retry.{retry_after}
use Rattle.sms_centre_rows.specs.waiting.Waiting.{next}
use Rattle.sms_centre_spec.proofs.Everything.{everything}
use Rattle.sms_centre_spec.proofs.Worked.{t0}

first : retry_after 1 t0 ≡ t0 + 60
unfolding everything
first = refl

fifth : retry_after 5 t0 ≡ t0 + 3600
unfolding everything
fifth = refl

abbrev pub scheduled : ℕ → ℕ → ℕ → QueuedPart
scheduled id priority due = record { id = id; number = 1; reference = 0; priority = priority; due = due }

lower : next t0 (scheduled 2 0 t0 ∷ scheduled 1 0 t0 ∷ []) ≡ Some (scheduled 1 0 t0)
unfolding everything
lower = refl

urgent : next t0 (scheduled 2 1 t0 ∷ scheduled 1 0 t0 ∷ []) ≡ Some (scheduled 2 1 t0)
unfolding everything
urgent = refl

none : next 1709251197 (scheduled 2 0 t0 ∷ scheduled 1 0 t0 ∷ []) ≡ None
unfolding everything
none = refl
