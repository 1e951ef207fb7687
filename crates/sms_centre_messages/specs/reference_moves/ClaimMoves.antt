-- Changes of a centre's rows as moves of what messages lay claim to.
use Rattle.sms_rows.specs.table.Table.{all_applied}
use Rattle.sms_centre_rows.specs.messages.Messages.{message_key}
use Rattle.sms_centre_messages.specs.references.Moves.{AreMoves, ArePartMoves}
use Rattle.sms_centre_spec.specs.declared.rows.Changes.{Changes}
use Rattle.sms_centre_spec.specs.declared.rows.Rows.{Rows}

-- those of messages are, from these rows on, and then those of parts, whose messages were put by the others
pub record MoveReferenceIndex (changes : Changes) (rows : Rows) : Type 0 where
  pub messages : AreMoves changes.messages rows.messages rows.parts
  pub parts : ArePartMoves changes.messages changes.parts (all_applied message_key changes.messages rows.messages) rows.parts
