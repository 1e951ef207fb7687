-- What the references of handsets rest on, in the middle of an event too. What waits for a handset holds references that were given
-- there, and no two hold one reference.
use Rattle.std.specs.Prelude.{ℕ, List}
use Rattle.sms_base.specs.Among.{Among}
use Rattle.sms_rows.specs.table.Table.{Rises}
use Rattle.sms_centre_rows.specs.declared.messages.message.MessageRow.{MessageRow}
use Rattle.sms_centre_rows.specs.messages.OpenParts.{Numbered}
use Rattle.sms_centre_rows.specs.reports.Reports.{report_key}
use Rattle.sms_centre_rows.specs.reports.Waiting.{Alone}
use Rattle.sms_centre_rows.specs.waiting.References.{handset_at}
use Rattle.sms_centre_rows.specs.waiting.SoundAllocations.{IsNumber, SoundAllocations}
use Rattle.sms_centre_rows.specs.waiting.SoundWaiting.{SoundWaiting}
use Rattle.sms_centre_spec.specs.Draft.{Store, handsets_in, messages_in, parts_in, references_in, reports_in, waiting_in}

pub record SoundHeld (s : Store) : Type 0 where
  pub allocations : SoundAllocations (handsets_in s) (references_in s)
  pub parts : Numbered (parts_in s)
  pub alone : Alone (reports_in s)
  pub report_keys : Rises report_key (reports_in s)
  pub numbers : (m : MessageRow) → Among m (messages_in s) → IsNumber m.handset
  pub waiting : (number : List ℕ) → SoundWaiting (handset_at number (handsets_in s)) (references_in s) (waiting_in number s)
