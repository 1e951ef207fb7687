-- What rows keep through an event: no message, part or report is lost. A message that has ended stays as it is. A part or a
-- report is sent under the reference and with the octets that it was made with.
use Rattle.std.specs.Prelude.{◌≡◌, ℕ, true, Some}
use Rattle.sms_base.specs.declared.final_state.FinalState.{FinalState}
use Rattle.sms_centre_rows.specs.declared.messages.message.MessageRow.{MessageRow}
use Rattle.sms_centre_rows.specs.declared.messages.part.PartRow.{PartRow}
use Rattle.sms_centre_rows.specs.messages.Messages.{message_at, part_at}
use Rattle.sms_centre_rows.specs.declared.reports.report.ReportRow.{ReportRow}
use Rattle.sms_centre_rows.specs.reports.Reports.{report_of}
use Rattle.sms_centre_spec.specs.declared.rows.Rows.{Rows}

pub record IsMessageStill (before after : MessageRow) : Type 0 where
  pub handset : after.handset ≡ before.handset
  pub source : after.source ≡ before.source
  pub originator : after.originator ≡ before.originator
  pub split : after.split_reference ≡ before.split_reference
  -- a final state is never taken back, nor is anything else of the row changed then
  pub final : (state : FinalState) → before.state ≡ Some state → after ≡ before

pub record IsPartStill (before after : PartRow) : Type 0 where
  pub id : after.id ≡ before.id
  pub reference : after.reference ≡ before.reference
  pub tpdu : after.tpdu ≡ before.tpdu
  pub done : before.progress.is_done ≡ true → after.progress.is_done ≡ true

pub record IsReportStill (before after : ReportRow) : Type 0 where
  pub kind : after.kind ≡ before.kind
  pub made : after.made ≡ before.made
  pub closed : before.progress.is_done ≡ true → after.progress.is_done ≡ true

pub record Keeps (before after : Rows) : Type 0 where
  pub messages : (id : ℕ) (m : MessageRow) → message_at id before.messages ≡ Some m
      → (x : MessageRow) × ((message_at id after.messages ≡ Some x) × IsMessageStill m x)
  pub parts : (id number : ℕ) (p : PartRow) → part_at id number before.parts ≡ Some p
      → (x : PartRow) × ((part_at id number after.parts ≡ Some x) × IsPartStill p x)
  pub reports : (id : ℕ) (r : ReportRow) → report_of id before.reports ≡ Some r → (x : ReportRow) × ((report_of id after.reports ≡ Some x) × IsReportStill r x)
