-- What is offered next, said of all that waits.
use Rattle.std.specs.Prelude.{◌≡◌, ℕ, ◌≤◌, List, false}
use Rattle.sms_base.specs.Among.{Among}
use Rattle.sms_centre_rows.specs.declared.waiting.queued_part.QueuedPart.{QueuedPart}
use Rattle.sms_centre_rows.specs.waiting.Waiting.{precedes}

-- it waits and is due, and nothing else that is due precedes it
pub record IsNext (now : ℕ) (waiting : List QueuedPart) (l : QueuedPart) : Type 0 where
  pub among : Among l waiting
  pub due : l.due ≤ now
  pub first : (other : QueuedPart) → Among other waiting → other.due ≤ now → precedes other l ≡ false
