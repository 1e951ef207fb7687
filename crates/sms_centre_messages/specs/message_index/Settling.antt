-- What an event leaves of messages, ready to be committed and put in.
use Rattle.std.specs.Prelude.{◌≡◌}
use Rattle.sms_rows.specs.table.Since.{oldest_first}
use Rattle.sms_centre_rows.specs.messages.Messages.{Messages, parts_of}
use Rattle.sms_centre_rows.specs.waiting.Revisions.{oldest_first as revisions_of}
use Rattle.sms_centre_messages.specs.declared.message_index.draft.MessageIndexPlan.{MessageIndexPlan}
use Rattle.sms_centre_messages.specs.message_index.MessageIndex.{Matches}

-- the changes are those of the messages, of each list the oldest first, and the memory is for them
pub record IsSettled (m : Messages) (s : MessageIndexPlan) : Type 0 where
  pub messages : s.messages ≡ oldest_first m.messages.news
  pub parts : s.parts ≡ revisions_of m.parts.news
  pub priorities : s.priorities ≡ oldest_first m.priorities.news
  pub matches : Matches s.reserve m.parts.base (parts_of m)
