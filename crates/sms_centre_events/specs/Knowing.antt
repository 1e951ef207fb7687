-- What is in memory of messages between two events: by it a submission is compared.
use Rattle.sms_centre_messages.specs.references.ReferenceIndex.{ReferenceIndexOf, Represents as ReferencesRepresent}
use Rattle.sms_centre_messages.specs.message_index.MessageIndex.{Represents as MessagesRepresent, MessageIndexOf}
use Rattle.sms_centre_spec.specs.Draft.{Store, bars_in, messages_in, parts_in}

-- no message or part has changed since
pub record Knows (message_index : MessageIndexOf) (claimed : ReferenceIndexOf) (s : Store) : Type 0 where
  pub messages : MessagesRepresent message_index (messages_in s) (parts_in s)
  pub reference_index : ReferencesRepresent claimed (bars_in s) (messages_in s) (parts_in s)
