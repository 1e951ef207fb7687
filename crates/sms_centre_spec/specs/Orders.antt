-- What an operator orders of a message, whoever sent it. Each order has one answer.
use Rattle.std.specs.Prelude.{ℕ, ◌==◌, ◌&&◌, not, List, filter, Bool, Option, Some, None}
use Rattle.smpp_pdu.specs.declared.status.CommandStatus.TheVariants.{ESME_RINVMSGID}
use Rattle.sms_centre_rows.specs.declared.messages.message.MessageRow.{MessageRow}
use Rattle.sms_centre_rows.specs.declared.waiting.queued_part.QueuedPart.{QueuedPart}
use Rattle.sms_centre_rows.specs.messages.Messages.{message_at}
use Rattle.sms_centre_spec.specs.declared.answer.CentreAnswer.TheVariants.{Queried}
use Rattle.sms_centre_spec.specs.declared.order.Order.{Order}
use Rattle.sms_centre_spec.specs.declared.order.Order.TheVariants.{Retry, Delete}
use Rattle.sms_centre_spec.specs.Draft.{Draft, Store, answer_with, in_store, messages_in, waiting_in}
use Rattle.sms_centre_spec.specs.Receiving.{all_due}
use Rattle.sms_centre_spec.specs.Requests.{cancelled, refused}

-- ---- due now: all of the message that waits for its handset

-- a part of the message; number 0 is its status report, which goes to the handset that sent it
abbrev pub is_part_of : ℕ → QueuedPart → Bool
is_part_of id l = (l.id == id) && not (l.number == 0)

abbrev pub parts_among : ℕ → List QueuedPart → List QueuedPart
parts_among id ls = filter (is_part_of id) ls

abbrev pub message_due : MessageRow → Store → Store
message_due m s = all_due (parts_among m.id (waiting_in m.handset s)) s

-- of one that has ended nothing waits
abbrev pub retried : Option MessageRow → Draft → Draft
retried None d = refused ESME_RINVMSGID d
retried (Some m) d = answer_with (Queried m.id m.state m.done) (in_store (message_due m d.store) d)

-- ---- the order

-- an order to delete does what a cancel_sm of the message does (SMPP v3.4 4.9)
abbrev pub ordered : Order → ℕ → Draft → Draft
ordered Retry id d = retried (message_at id (messages_in d.store)) d
ordered Delete id d = cancelled (message_at id (messages_in d.store)) d
