-- A shelf: all that concerns one handset.
use Rattle.std.specs.Prelude.{ℕ, List, Option, Some}
use Rattle.sms_rows.specs.table.Table.{put, without}
use Rattle.sms_link.specs.LinkTurn.{Turn}
use Rattle.sms_centre_rows.specs.declared.waiting.handset.HandsetRow.{HandsetRow}
use Rattle.sms_centre_rows.specs.declared.waiting.handset_link.HandsetLink.{HandsetLink}
use Rattle.sms_centre_rows.specs.declared.waiting.queued_part.QueuedPart.{QueuedPart}
use Rattle.sms_centre_rows.specs.declared.waiting.reference.ReferenceRow.{ReferenceRow}
use Rattle.sms_centre_rows.specs.waiting.Keys.{queued_key, reference_key}
use Rattle.sms_centre_rows.specs.waiting.Links.{turned}
use Rattle.sms_centre_rows.specs.waiting.References.{given_row, mentioned}
use Rattle.sms_centre_rows.specs.waiting.Waiting.{all_at_once, withdrawn}

pub record DeliveryQueueOf : Type 0 where
  -- its row, if it was given a reference
  pub row : Option HandsetRow
  -- the references that were given there, in their order
  pub given : List ReferenceRow
  -- what waits for it, in the order of messages and numbers
  pub waiting : List QueuedPart
  pub link : HandsetLink

-- the reference is given there
abbrev pub queue_given : HandsetRow → ℕ → ℕ → DeliveryQueueOf → DeliveryQueueOf
queue_given h reference moment s = record s {
  row = Some (mentioned h reference);
  given = put reference_key (given_row h reference moment) s.given;
}

-- one more waits there, or waits otherwise
abbrev pub queue_with : QueuedPart → DeliveryQueueOf → DeliveryQueueOf
queue_with l s = record s { waiting = put queued_key l s.waiting }

-- it waits there no more
abbrev pub queue_without : ℕ → DeliveryQueueOf → DeliveryQueueOf
queue_without key s = record s { waiting = without queued_key key s.waiting }

abbrev pub queue_withdrawn : ℕ → DeliveryQueueOf → DeliveryQueueOf
queue_withdrawn id s = record s { waiting = withdrawn id s.waiting }

abbrev pub queue_at_once : ℕ → DeliveryQueueOf → DeliveryQueueOf
queue_at_once now s = record s { waiting = all_at_once now s.waiting }

abbrev pub queue_turned : Turn → DeliveryQueueOf → DeliveryQueueOf
queue_turned turn s = record s { link = turned turn s.link }

abbrev pub queue_on : HandsetLink → DeliveryQueueOf → DeliveryQueueOf
queue_on link s = record s { link = link }
