-- What a receipt or a status report says of a message that ended (SMPP v3.4 4.6.1, 3GPP TS 23.040 9.2.2.3).
use Rattle.std.specs.Prelude.{ℕ}
use Rattle.sms_base.specs.declared.final_state.FinalState.{FinalState}
use Rattle.sms_centre_rows.specs.declared.messages.message.MessageRow.{MessageRow}
use Rattle.sms_base.specs.declared.originator.Originator.{Originator}
use Rattle.sms_base.specs.declared.originator.Originator.TheVariants.{Application, Handset}
use Rattle.sms_receipt.specs.declared.final_message.Final.{Final}

-- TP-MR of the SUBMIT
abbrev pub submit_reference : Originator → ℕ
submit_reference (Application account) = 0
submit_reference (Handset message_reference) = message_reference

-- of a message that ended so at a moment
abbrev pub final_of : FinalState → ℕ → MessageRow → Final
final_of state moment m = record {
  id = m.id;
  source = m.source;
  handset = m.handset;
  message_reference = submit_reference m.originator;
  submitted = m.submitted;
  done = moment;
  state = state;
}
