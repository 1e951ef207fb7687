-- What a centre asks of one message before it forgets it.
use Rattle.std.specs.Prelude.{ℕ, ◌∷◌, [], List, Bool, if◌then◌else◌, Option, Some, None}
use Rattle.sms_centre_rows.specs.declared.messages.message.MessageRow.{MessageRow}

-- its number, if it is there and passes the test
abbrev pub gone_at : (MessageRow → Bool) → Option MessageRow → List ℕ
gone_at goes None = []
gone_at goes (Some m) = if goes m then m.id ∷ [] else []
