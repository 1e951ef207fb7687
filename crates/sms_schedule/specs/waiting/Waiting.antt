-- What waits, as a queue keeps it: what copies share, and what was put behind it.
use Rattle.std.specs.Prelude.{◌++◌, List}
use Rattle.sms_centre_rows.specs.declared.waiting.queued_part.QueuedPart.{QueuedPart}

pub record WaitingPartsOf : Type 0 where
  pub base : List QueuedPart
  pub newer : List QueuedPart

-- all that waits
abbrev pub queued_of : WaitingPartsOf → List QueuedPart
queued_of w = w.base ++ w.newer
