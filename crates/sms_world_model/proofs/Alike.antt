-- What is compared of a TPDU is read as the TPDU but for TP-MMS, and so has the same place and carries the same.
use Rattle.std.proofs.Common.{◌≡◌, ℕ, List, false, refl, ap, ◌∙◌, Result, Ok, Err, true, sym}
use Rattle.std.specs.Prelude.{◌↔◌}
use Rattle.sms_base.specs.declared.final_state.FinalState.{FinalState}
use Rattle.sms_tpdu.specs.declared.deliver.Deliver.{Deliver as DeliverOf}
use Rattle.sms_tpdu.specs.declared.status_report.StatusReport.{StatusReport as StatusReportOf}
use Rattle.sms_tpdu.specs.declared.user_data.UserData.{UserData}
use Rattle.sms_world_model.specs.Submission.{Submission, IsDeliverOf, IsReportOf}
use Rattle.sms_tpdu.specs.declared.carrier.Carrier.TheVariants.{InData}
use Rattle.sms_tpdu.specs.declared.down.Down.{Down}
use Rattle.sms_tpdu.specs.declared.down.Down.TheVariants.{Deliver, StatusReport, SubmitReport}
use Rattle.sms_tpdu.specs.declared.fault.TpduFault.{TpduFault}
use Rattle.sms_tpdu.specs.MoreMessages.{compared, reading_with_more_messages}
use Rattle.sms_tpdu.specs.TpduReading.{down_at}
use Rattle.sms_tpdu.proofs.MoreBits.{compared_reads}
use Rattle.sms_world_model.specs.Place.{place_read, place_in, part_read, carried_in}

place_told : (read : Result Down TpduFault) → place_read (reading_with_more_messages false read) ≡ place_read read
place_told (Ok (Deliver d)) = refl
place_told (Ok (StatusReport r)) = refl
place_told (Ok (SubmitReport r)) = refl
place_told (Err fault) = refl

part_told : (read : Result Down TpduFault) → part_read (reading_with_more_messages false read) ≡ part_read read
part_told (Ok (Deliver d)) = refl
part_told (Ok (StatusReport r)) = refl
part_told (Ok (SubmitReport r)) = refl
part_told (Err fault) = refl

pub place_alike : (tpdu : List ℕ) → place_in (compared tpdu) ≡ place_in tpdu
unfolding place_in
place_alike tpdu = ap (λ (read : Result Down TpduFault). place_read read) (compared_reads tpdu) ∙ place_told (down_at InData tpdu)

pub carried_alike : (tpdu : List ℕ) → carried_in (compared tpdu) ≡ carried_in tpdu
unfolding carried_in
carried_alike tpdu = ap (λ (read : Result Down TpduFault). part_read read) (compared_reads tpdu) ∙ part_told (down_at InData tpdu)

-- ---- whose TPDU it is

abbrev Read : Type 0
Read = Result Down TpduFault

deliver_from : (s : Submission) (part : UserData) (m : ℕ) (tpdu : List ℕ) → IsDeliverOf s part m (compared tpdu) → IsDeliverOf s part m tpdu
deliver_from s part m tpdu x = at (down_at InData tpdu) refl (sym (compared_reads tpdu) ∙ x.reads)
  where
    at : (r : Read) → down_at InData tpdu ≡ r → reading_with_more_messages false r ≡ Ok (Deliver x.deliver) → IsDeliverOf s part m tpdu
    at (Ok (Deliver d)) q f =
        let same : record d { no_more_messages_to_send = true } ≡ x.deliver = cc f in
        record {
          deliver = d;
          reads = q;
          time_stamp = ap (λ (e : DeliverOf). e.service_centre_time_stamp) same ∙ x.time_stamp;
          source = ap (λ (e : DeliverOf). e.originating_address) same ∙ x.source;
          protocol_identifier = ap (λ (e : DeliverOf). e.protocol_identifier) same ∙ x.protocol_identifier;
          data_coding_scheme = ap (λ (e : DeliverOf). e.data_coding_scheme) same ∙ x.data_coding_scheme;
          reply_path = ap (λ (e : DeliverOf). e.reply_path) same ∙ x.reply_path;
          header_indicator = ap (λ (e : DeliverOf). e.user_data_header_indicator) same ∙ x.header_indicator;
          user_data = ap (λ (e : DeliverOf). e.user_data) same ∙ x.user_data;
        }
    at (Ok (StatusReport r)) q f = absurd (cc f)
    at (Ok (SubmitReport r)) q f = absurd (cc f)
    at (Err fault) q f = absurd (cc f)

deliver_to : (s : Submission) (part : UserData) (m : ℕ) (tpdu : List ℕ) → IsDeliverOf s part m tpdu → IsDeliverOf s part m (compared tpdu)
deliver_to s part m tpdu x = record {
  deliver = record x.deliver { no_more_messages_to_send = true };
  reads = compared_reads tpdu ∙ ap (λ (r : Read). reading_with_more_messages false r) x.reads;
  time_stamp = x.time_stamp;
  source = x.source;
  protocol_identifier = x.protocol_identifier;
  data_coding_scheme = x.data_coding_scheme;
  reply_path = x.reply_path;
  header_indicator = x.header_indicator;
  user_data = x.user_data;
}

pub deliver_alike : (s : Submission) (part : UserData) (m : ℕ) (tpdu : List ℕ) → IsDeliverOf s part m (compared tpdu) ↔ IsDeliverOf s part m tpdu
deliver_alike s part m tpdu = (deliver_from s part m tpdu, deliver_to s part m tpdu)

report_from : (s : Submission) (f : FinalState) (tpdu : List ℕ) → IsReportOf s f (compared tpdu) → IsReportOf s f tpdu
report_from s f tpdu x = at (down_at InData tpdu) refl (sym (compared_reads tpdu) ∙ x.reads)
  where
    at : (r : Read) → down_at InData tpdu ≡ r → reading_with_more_messages false r ≡ Ok (StatusReport x.report) → IsReportOf s f tpdu
    at (Ok (StatusReport r)) q g =
        let same : record r { no_more_messages_to_send = true } ≡ x.report = cc g in
        record {
          report = r;
          reads = q;
          status = ap (λ (e : StatusReportOf). e.status) same ∙ x.status;
          recipient = ap (λ (e : StatusReportOf). e.recipient_address.digits) same ∙ x.recipient;
        }
    at (Ok (Deliver d)) q g = absurd (cc g)
    at (Ok (SubmitReport r)) q g = absurd (cc g)
    at (Err fault) q g = absurd (cc g)

report_to : (s : Submission) (f : FinalState) (tpdu : List ℕ) → IsReportOf s f tpdu → IsReportOf s f (compared tpdu)
report_to s f tpdu x = record {
  report = record x.report { no_more_messages_to_send = true };
  reads = compared_reads tpdu ∙ ap (λ (r : Read). reading_with_more_messages false r) x.reads;
  status = x.status;
  recipient = x.recipient;
}

pub report_alike : (s : Submission) (f : FinalState) (tpdu : List ℕ) → IsReportOf s f (compared tpdu) ↔ IsReportOf s f tpdu
report_alike s f tpdu = (report_from s f tpdu, report_to s f tpdu)
