-- What a stage is reached with.
use Rattle.std.specs.Prelude.{◌≡◌, Some, None}
use Rattle.sms_base.specs.declared.final_state.FinalState.{FinalState}
use Rattle.sms_centre_rows.specs.declared.messages.message.MessageRow.{MessageRow}
use Rattle.sms_centre_rows.specs.messages.Messages.{ended, message_at}
use Rattle.sms_centre_rows.specs.reports.Reports.{report_of}
use Rattle.sms_centre_spec.specs.Draft.{Store, messages_in, reports_in}

-- the message has ended so, and that is not reported yet
pub record IsUnreported (f : FinalState) (m : MessageRow) (s : Store) : Type 0 where
  pub there : message_at m.id (messages_in s) ≡ Some (ended f s.moment m)
  pub none : report_of m.id (reports_in s) ≡ None
