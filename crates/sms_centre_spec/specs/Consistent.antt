-- What each stage of an event may rest on, and leaves so. What waits holds references apart, and parts and reports are of messages
-- that are there. And what a submission that passed all checks is good for.
use Rattle.std.specs.Prelude.{◌≡◌, ℕ, ◌<◌, ◌≤◌, length, false, Some}
use Rattle.sms_alphabet.specs.DataCodingScheme.{coding_of}
use Rattle.sms_base.specs.Address.{IsAddress}
use Rattle.sms_base.specs.Among.{Among}
use Rattle.sms_rows.specs.table.Table.{Rises}
use Rattle.sms_tpdu.specs.UserDataGrammar.{IsUserData}
use Rattle.sms_centre_rows.specs.declared.messages.message.MessageRow.{MessageRow}
use Rattle.sms_centre_rows.specs.declared.messages.part.PartRow.{PartRow}
use Rattle.sms_centre_rows.specs.messages.Messages.{is_pending, message_at, message_key}
use Rattle.sms_centre_rows.specs.declared.reports.report.ReportRow.{ReportRow}
use Rattle.sms_centre_rows.specs.waiting.SoundAllocations.{IsNumber}
use Rattle.sms_intake.specs.declared.submission.SinglePart.{SinglePart}
use Rattle.sms_intake.specs.declared.submission.Submission.{Submission}
use Rattle.sms_centre_spec.specs.Draft.{Store, messages_in, parts_in, reports_in}
use Rattle.sms_centre_spec.specs.Held.{SoundHeld}
use Rattle.sms_centre_spec.specs.SoundRows.{HasReportAddress}
use Rattle.sms_centre_spec.specs.Submitting.{data_coding_of}
use Rattle.sms_intake.specs.PartBodies.{bodies_under}

-- ---- rows

pub record IsConsistent (s : Store) : Type 0 where
  pub held : SoundHeld s
  pub message_keys : Rises message_key (messages_in s)
  pub report_addresses : (m : MessageRow) → Among m (messages_in s) → HasReportAddress m.originator m.source
  pub parts : (p : PartRow) → Among p (parts_in s) → (m : MessageRow) × (message_at p.id (messages_in s) ≡ Some m)
  -- a report's message has ended
  pub reports : (r : ReportRow) → Among r (reports_in s) → (m : MessageRow) × ((message_at r.id (messages_in s) ≡ Some m) × (is_pending m ≡ false))

-- ---- submissions

-- user data of its data coding scheme, which is that of the submission
pub record IsBody (u : Submission) (b : SinglePart) : Type 0 where
  pub fields : IsUserData (coding_of b.data_coding_scheme) b.header_indicator (record { length = b.length; octets = b.octets })
  pub scheme : b.data_coding_scheme ≡ data_coding_of u.text

pub record IsSubmission (u : Submission) : Type 0 where
  pub source : IsAddress u.source
  pub handset : IsNumber u.handset
  pub report_address : HasReportAddress u.originator u.source
  pub priority : u.priority ≤ 3
  -- under each reference it is 1 to 20 parts
  pub some : (reference : ℕ) → 0 < length (bodies_under reference u.text)
  pub few : (reference : ℕ) → length (bodies_under reference u.text) ≤ 20
  pub bodies : (reference : ℕ) (b : SinglePart) → Among b (bodies_under reference u.text) → IsBody u b
