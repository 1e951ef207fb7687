-- Worked examples: 1709251198 is 2024-02-29 23:59:58.
use Rattle.std.proofs.Common.{◌≡◌, ℕ, List, [], ◌∷◌, Some, None, refl}
use Rattle.sms_centre_rows.specs.declared.waiting.queued_part.QueuedPart.{QueuedPart}
use Rattle.sms_centre_rows.specs.waiting.Retry.{retry_after}
use Rattle.sms_centre_rows.specs.waiting.Waiting.{next}

after_one_attempt : retry_after 1 1709251198 ≡ 1709251258
after_one_attempt = refl

after_five_attempts : retry_after 5 1709251198 ≡ 1709254798
after_five_attempts = refl

abbrev row : ℕ → ℕ → ℕ → QueuedPart
row id due priority = record { id = id; number = 1; reference = 0; priority = priority; due = due }

two_rows : List QueuedPart
two_rows = row 8 1709251198 0 ∷ row 7 1709251198 0 ∷ []

-- of two that are due at once the lower number, and nothing a second before
lower_first : next 1709251198 two_rows ≡ Some (row 7 1709251198 0)
unfolding two_rows
lower_first = refl

none_before : next 1709251197 two_rows ≡ None
unfolding two_rows
none_before = refl

-- the more urgent one goes before one that was due earlier
urgent_first : next 1709251198 (row 7 1709251190 0 ∷ row 8 1709251198 3 ∷ []) ≡ Some (row 8 1709251198 3)
urgent_first = refl
