-- Rows on which a centre can start.
use Rattle.std.specs.Prelude.{◌≡◌, ℕ, List, [], false, Some}
use Rattle.sms_base.specs.Address.{IsAddress}
use Rattle.sms_base.specs.Among.{Among}
use Rattle.sms_base.specs.declared.address.Address.{Address}
use Rattle.sms_base.specs.TimeStamp.{IsMoment}
use Rattle.sms_rows.specs.table.Table.{Rises}
use Rattle.sms_centre_rows.specs.declared.messages.message.MessageRow.{MessageRow}
use Rattle.sms_base.specs.declared.originator.Originator.{Originator}
use Rattle.sms_base.specs.declared.originator.Originator.TheVariants.{Application, Handset}
use Rattle.sms_centre_rows.specs.messages.Bars.{bar_key}
use Rattle.sms_centre_rows.specs.messages.SoundMessages.{SoundMessages}
use Rattle.sms_centre_rows.specs.messages.SplitReferences.{is_delivered}
use Rattle.sms_centre_rows.specs.declared.reports.report.ReportRow.{ReportRow}
use Rattle.sms_centre_rows.specs.reports.SoundReports.{SoundReports}
use Rattle.sms_centre_rows.specs.reports.Waiting.{waiting_for}
use Rattle.sms_centre_rows.specs.declared.waiting.queued_part.QueuedPart.{QueuedPart}
use Rattle.sms_centre_rows.specs.declared.waiting.reference.ReferenceRow.{ReferenceRow}
use Rattle.sms_centre_rows.specs.waiting.References.{handset_at}
use Rattle.sms_centre_rows.specs.waiting.SoundAllocations.{IsNumber, SoundAllocations}
use Rattle.sms_centre_rows.specs.waiting.SoundWaiting.{SoundWaiting}
use Rattle.sms_centre_spec.specs.declared.rows.Rows.{Rows}
use Rattle.sms_intake.specs.declared.submission.CentreAccount.{CentreAccount}
use Rattle.sms_centre_spec.specs.declared.setup.Setup.{Setup}

-- what a centre is given when it starts
pub record IsSetup (setup : Setup) : Type 0 where
  pub centre : IsAddress setup.centre
  pub start : IsMoment setup.start
  pub accounts : (a : CentreAccount) → Among a setup.accounts → IsAddress a.address

-- the moments of rows are of the years that time stamps write
pub record AreTimes (messages : List MessageRow) (references : List ReferenceRow) (reports : List ReportRow) : Type 0 where
  pub submitted : (m : MessageRow) → Among m messages → IsMoment m.submitted
  pub given : (r : ReferenceRow) → Among r references → IsMoment r.last
  pub made : (r : ReportRow) → Among r reports → IsMoment r.made

-- a handset's message is from a number, to which its status report can be sent
abbrev pub HasReportAddress : Originator → Address → Type 0
HasReportAddress (Application account) source = Unit {0}
HasReportAddress (Handset message_reference) source = IsNumber source.digits

-- No two messages of a source to a handset that aren't wholly delivered were split under one reference. So what a handset joins is
-- one of them.
abbrev pub AreSplitApart : List MessageRow → Type 0
AreSplitApart messages =
    (m n : MessageRow) (reference : ℕ) → Among m messages → Among n messages → m.source ≡ n.source → m.handset ≡ n.handset
    → m.split_reference ≡ Some reference → n.split_reference ≡ Some reference → is_delivered m.state ≡ false → is_delivered n.state ≡ false → m.id ≡ n.id

-- all that waits for a handset
abbrev pub all_for : List ℕ → Rows → List QueuedPart
all_for number rows = waiting_for number rows.messages rows.priorities rows.parts rows.reports

pub record IsSound (rows : Rows) : Type 0 where
  pub setup : IsSetup rows.setup
  pub times : AreTimes rows.messages rows.references rows.reports
  pub messages : SoundMessages rows.messages rows.parts rows.priorities
  pub report_addresses : (m : MessageRow) → Among m rows.messages → HasReportAddress m.originator m.source
  pub allocations : SoundAllocations rows.handsets rows.references
  pub reports : SoundReports rows.messages rows.reports
  pub waiting : (number : List ℕ) → SoundWaiting (handset_at number rows.handsets) rows.references (all_for number rows)
  pub splits : AreSplitApart rows.messages
  pub bars : Rises bar_key rows.bars

-- the rows of a new store
abbrev pub first_rows : Setup → Rows
first_rows setup = record { messages = []; parts = []; references = []; handsets = []; reports = []; priorities = []; bars = []; setup = setup }
