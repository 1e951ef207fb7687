-- What an archive has of the messages that a centre forgets.
use Rattle.std.specs.Prelude.{◌≡◌, ℕ, List, true}
use Rattle.sms_base.specs.Among.{Among}
use Rattle.sms_centre_rows.specs.declared.messages.message.MessageRow.{MessageRow}
use Rattle.sms_centre_rows.specs.messages.SplitReferences.{is_among}
use Rattle.sms_centre_messages.specs.message_index.Forgettable.{count_parts}
use Rattle.sms_centre_spec.specs.declared.rows.Rows.{Rows}

-- how many parts the rows have of the message with this number
abbrev pub parts_in : Rows → ℕ → ℕ
parts_in rows id = count_parts id rows.parts

-- it has each message with one of these numbers, with as many parts as the rows have of it
abbrev pub AreArchived : (MessageRow → ℕ → Type 0) → List ℕ → Rows → Type 0
AreArchived has ids rows = (m : MessageRow) → Among m rows.messages → is_among m.id ids ≡ true → has m (parts_in rows m.id)

-- what it had it has still
abbrev pub Stays : (MessageRow → ℕ → Type 0) → (MessageRow → ℕ → Type 0) → Type 0
Stays before after = (m : MessageRow) (parts : ℕ) → before m parts → after m parts
