-- How far a transfer is once it was answered, failed, or is to be tried at once.
use Rattle.std.specs.Prelude.{ℕ, ◌+◌, min, true}
use Rattle.sms_centre_rows.specs.waiting.Retry.{retry_after}
use Rattle.sms_centre_rows.specs.declared.waiting.progress.Progress.{Progress}

-- so many seconds later, never past the last moment
abbrev pub later : ℕ → ℕ → ℕ
later moment seconds = min (moment + seconds) 4102444799

-- attempts are counted to 255
abbrev pub one_more : ℕ → ℕ
one_more attempts = min (attempts + 1) 255

-- answered for good
abbrev pub finished : Progress → Progress
finished p = record p { is_done = true }

-- one more attempt failed
abbrev pub tried : ℕ → Progress → Progress
tried now p = record p { attempts = one_more p.attempts; due = retry_after (one_more p.attempts) now }

-- it is tried at that moment
abbrev pub due_at : ℕ → Progress → Progress
due_at moment p = record p { due = moment }
