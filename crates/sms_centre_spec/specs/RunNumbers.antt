-- A run of a centre, and the numbers that it gives.
use Rattle.std.specs.Prelude.{ℕ, ◌+◌, List, [], ◌∷◌, Bool, is_some, if◌then◌else◌}
use Rattle.sms_centre_rows.specs.messages.Messages.{message_at}
use Rattle.sms_centre_spec.specs.declared.event.CentreEvent.{CentreEvent}
use Rattle.sms_centre_spec.specs.CentreEvent.{happened}
use Rattle.sms_centre_spec.specs.Draft.{Core, core_of}
use Rattle.sms_centre_spec.specs.MessageNumbers.{next_number}

-- the centre after events, one after another
abbrev pub after : List CentreEvent → Core → Core
after [] c = c
after (event ∷ events) c = after events (core_of (happened event c))

-- the event gives the next number
abbrev pub gives_number : CentreEvent → Core → Bool
gives_number event c = is_some (message_at (next_number c.rows) (core_of (happened event c)).rows.messages)

-- how many they give
abbrev pub numbers_given : List CentreEvent → Core → ℕ
numbers_given [] c = 0
numbers_given (event ∷ events) c = (if gives_number event c then 1 else 0) + numbers_given events (core_of (happened event c))
