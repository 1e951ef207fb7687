-- The STATUS-REPORT of a message that ended (3GPP TS 23.040 9.2.2.3).
use Rattle.std.specs.Prelude.{ℕ, List, true, false}
use Rattle.sms_base.specs.HandsetNumber.{own_address}
use Rattle.sms_base.specs.UtcClock.{stamp_of}
use Rattle.sms_base.specs.declared.final_state.FinalState.{FinalState}
use Rattle.sms_base.specs.declared.final_state.FinalState.TheVariants.{Delivered, Expired, Deleted, Undeliverable}
use Rattle.sms_tpdu.specs.AddressGrammar.{address_field}
use Rattle.sms_tpdu.specs.Codes.{status_octet}
use Rattle.sms_tpdu.specs.TpduGrammar.{no_parameters, status_report_head, status_report_fields}
use Rattle.sms_tpdu.specs.declared.codes.Status.{Status}
use Rattle.sms_tpdu.specs.declared.codes.Status.TheVariants.{Received, RemoteProcedureError, ValidityPeriodExpired, DeletedByServiceCentre}
use Rattle.sms_tpdu.specs.declared.status_report.StatusReport.{StatusReport}
use Rattle.sms_receipt.specs.declared.final_message.Final.{Final}

-- TP-ST (9.2.3.15)
abbrev pub status_of : FinalState → Status
status_of Delivered = Received
status_of Expired = ValidityPeriodExpired
status_of Deleted = DeletedByServiceCentre
status_of Undeliverable = RemoteProcedureError

-- It answers a SUBMIT, so that TP-SRQ is 0. TP-DT is when the message ended. More-messages is set anew at each offer.
abbrev pub status_report_of : Final → StatusReport
status_report_of f = record {
  no_more_messages_to_send = true;
  status_report_qualifier = false;
  user_data_header_indicator = false;
  message_reference = f.message_reference;
  recipient_address = own_address f.handset;
  service_centre_time_stamp = f.submitted;
  discharge_time = f.done;
  status = status_octet (status_of f.state);
  parameters = no_parameters;
}

-- the one written list of a report without parameters
abbrev pub status_written : StatusReport → List ℕ
status_written r =
    status_report_fields (status_report_head r) (address_field r.recipient_address) (stamp_of r.service_centre_time_stamp) (stamp_of r.discharge_time) r

abbrev pub status_octets : Final → List ℕ
status_octets f = status_written (status_report_of f)
