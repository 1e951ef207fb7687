-- The TPDUs of parts and status reports are read as what they were made of, and are short.
use Rattle.std.proofs.Common.{◌≡◌, ℕ, ◌+◌, ◌≤◌, List, [], ◌∷◌, ◌++◌, length, length-append, Option, refl, sym, ◌∙◌, ap, subst, arith}
use Rattle.std.proofs.lemmas.List.{append-nil}
use Rattle.sms_alphabet.specs.DataCodingScheme.{coding_of}
use Rattle.sms_base.specs.Address.{IsAddress}
use Rattle.sms_base.specs.declared.final_state.FinalState.{FinalState}
use Rattle.sms_base.specs.TimeStamp.{IsMoment, IsWrittenScts}
use Rattle.sms_base.specs.UtcClock.{clock_at}
use Rattle.sms_base.proofs.UtcClocks.{stamp_is_written}
use Rattle.sms_tpdu.specs.declared.carrier.Carrier.TheVariants.{InData}
use Rattle.sms_tpdu.specs.declared.deliver.Deliver.{Deliver as DeliverOf}
use Rattle.sms_tpdu.specs.declared.down.Down.TheVariants.{Deliver, StatusReport}
use Rattle.sms_tpdu.specs.declared.status_report.StatusReport.{StatusReport as StatusReportOf}
use Rattle.sms_tpdu.specs.AddressGrammar.{address_field}
use Rattle.sms_tpdu.specs.TpduReading.{down_at}
use Rattle.sms_tpdu.proofs.NameValues.{field_short}
use Rattle.sms_tpdu.proofs.WrittenUnits.{written_down_is_read}
use Rattle.sms_tpdu.proofs.Lengths.{few_octets}
use Rattle.sms_centre_rows.specs.declared.messages.message.MessageRow.{MessageRow}
use Rattle.sms_base.specs.declared.originator.Originator.{Originator}
use Rattle.sms_base.specs.declared.originator.Originator.TheVariants.{Handset}
use Rattle.sms_centre_rows.specs.declared.messages.part.PartRow.{PartRow}
use Rattle.sms_centre_rows.specs.messages.SoundMessages.{IsDeliver}
use Rattle.sms_centre_rows.specs.reports.SoundReports.{IsStatus}
use Rattle.sms_centre_rows.specs.waiting.SoundAllocations.{IsNumber}
use Rattle.sms_intake.specs.declared.submission.SinglePart.{SinglePart}
use Rattle.sms_intake.specs.declared.submission.Submission.{Submission}
use Rattle.sms_intake.specs.PartBodies.{deliver_octets, deliver_of}
use Rattle.sms_base.specs.HandsetNumber.{own_address}
use Rattle.sms_receipt.specs.StatusReports.{status_octets, status_report_of}
use Rattle.sms_centre_spec.specs.Finals.{final_of, submit_reference}
use Rattle.sms_centre_spec.specs.Consistent.{IsBody}
use Rattle.sms_centre_spec.specs.Submitting.{message_of}
use Rattle.sms_base.specs.UtcClock.{stamp_of}

stamp_written : (moment : ℕ) → IsMoment moment → IsWrittenScts (stamp_of moment) moment
stamp_written moment is = stamp_is_written moment is

-- ---- DELIVER

pub part_reads : (id submitted moment : ℕ) (split : Option ℕ) (u : Submission) (b : SinglePart) (p : PartRow) → IsMoment moment → IsAddress u.source → IsBody u b → p.tpdu ≡ deliver_octets moment u b
    → IsDeliver (message_of id submitted split u) p (deliver_of moment u b)
part_reads id submitted moment split u b p now source body tpdu =
    let d : DeliverOf = deliver_of moment u b in
    let read = written_down_is_read InData (deliver_octets moment u b) (Deliver d) (stamp_of moment, source, stamp_written moment now, body.fields, refl) in
    let from : List ℕ = address_field u.source in
    let front : length from ≤ 12 = field_short u.source source in
    let rest : List ℕ = stamp_of moment ++ (b.length ∷ b.octets) in
    let text : length b.octets ≤ 140 = let whole = body.fields.whole in let few = few_octets (coding_of b.data_coding_scheme) b.length body.fields.within in omega (arith, whole, few) in
    let long : length (from ++ (u.protocol_identifier ∷ b.data_coding_scheme ∷ rest)) ≡ length from + length (u.protocol_identifier ∷ b.data_coding_scheme ∷ rest) =
    length-append from (u.protocol_identifier ∷ b.data_coding_scheme ∷ rest) in
    let short : length (deliver_octets moment u b) ≤ 200 = omega (arith, long, front, text) in
    record {
      read = ap (λ (o : List ℕ). down_at InData o) tpdu ∙ read.1;
      source = refl;
      data_coding_scheme = body.scheme;
      protocol_identifier = refl;
      no_more = refl;
      fits = subst (λ (o : List ℕ). length o ≤ 200) (sym tpdu) short;
    }

-- ---- STATUS-REPORT

pub status_reads : (f : FinalState) (moment n : ℕ) (m w : MessageRow) → IsMoment moment → IsMoment m.submitted → IsNumber m.handset → m.originator ≡ Handset n → w.handset ≡ m.handset → w.submitted ≡ m.submitted
    → IsStatus n w moment (status_octets (final_of f moment m)) (status_report_of (final_of f moment m))
status_reads f moment n m w now then number from handset submitted =
    let r : StatusReportOf = status_report_of (final_of f moment m) in
    let octets : List ℕ = status_octets (final_of f moment m) in
    let read = written_down_is_read InData octets (StatusReport r)
    (stamp_of m.submitted, stamp_of moment, number, stamp_written m.submitted then, stamp_written moment now, tt, sym (append-nil octets)) in
    let to : List ℕ = address_field (own_address m.handset) in
    let front : length to ≤ 12 = field_short (own_address m.handset) number in
    let rest : List ℕ = stamp_of m.submitted ++ (stamp_of moment ++ (r.status ∷ [])) in
    let long : length (to ++ rest) ≡ length to + length rest = length-append to rest in
    let short : length octets ≤ 200 = omega (arith, long, front) in
    record {
      read = read.1;
      message = ap (λ (o : Originator). submit_reference o) from;
      recipient = sym handset;
      submitted = sym submitted;
      discharged = refl;
      no_more = refl;
      fits = short;
    }
