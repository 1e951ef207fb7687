-- Numbers of messages. No number is given twice, also where a run of the centre has lost what an earlier one had committed.
use Rattle.std.specs.Prelude.{◌≡◌, ℕ, ◌+◌, ◌*◌, ◌/◌, ◌<◌, max, ◌⊎◌, Option, Some, None}
use Rattle.sms_base.specs.Among.{Among}
use Rattle.sms_centre_rows.specs.declared.messages.message.MessageRow.{MessageRow}
use Rattle.sms_centre_rows.specs.messages.Messages.{next_id}
use Rattle.sms_centre_spec.specs.declared.rows.Rows.{Rows}

-- the number of the next message: the first of this run, or one more than the greatest in the rows
abbrev pub next_number : Rows → ℕ
next_number rows = max rows.setup.first (next_id rows.messages)

-- it was given before: in an earlier run, or it is in the rows
abbrev pub WasGiven : Rows → ℕ → Type 0
WasGiven rows n = (n < rows.setup.first) ⊎ ((m : MessageRow) × (Among m rows.messages × (m.id ≡ n)))

-- ---- where a run begins
-- A step is 100,000 numbers. A store keeps how many steps its runs have skipped. What one log of a store holds takes fewer numbers
-- than a step, so a run that has lost a log has lost fewer.

abbrev pub numbers_of_step : ℕ
numbers_of_step = 100000

-- the first number of a run: behind all steps that were skipped
abbrev pub first_number : ℕ → ℕ
first_number step = step * numbers_of_step + 1

-- the steps that it takes to reach a number
abbrev pub steps_to : ℕ → ℕ
steps_to n = (n + 99999) / numbers_of_step

-- no number is 0
abbrev pub greatest_of : Option ℕ → ℕ
greatest_of None = 0
greatest_of (Some n) = n

-- The steps of a run after one that did not end in order. 'found' is the greatest number in the rows.
abbrev pub step_after_loss : ℕ → Option ℕ → ℕ
step_after_loss step found = 1 + max step (steps_to (greatest_of found))
