-- A message that was found.
use Rattle.std.specs.Prelude.{◌≡◌, Option, Some, None}
use Rattle.sms_centre_rows.specs.declared.messages.message.MessageRow.{MessageRow}
use Rattle.sms_centre_rows.specs.messages.Messages.{message_at}
use Rattle.sms_centre_spec.specs.Draft.{Store, messages_in}

-- the store has it under its number
abbrev pub IsStored : Option MessageRow → Store → Type 0
IsStored None s = Unit {0}
IsStored (Some m) s = message_at m.id (messages_in s) ≡ Some m
