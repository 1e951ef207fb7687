-- The tests of reports hold exactly where a centre can stand on them.
use Rattle.std.proofs.Common.{◌≡◌, ℕ, List, length, map, true, Option, Some, None, Result, Ok, Err, refl, ◌∙◌, ap, is_some}
use Rattle.std.specs.Prelude.{◌&&◌, ◌==◌, nat_le, nat_lt}
use Rattle.std.specs.Str.{bytes_eq}
use Rattle.std.proofs.lemmas.Bool.{and_from, and_parts, eq-eqb, eqb-true, le-leb, leb-true, lt-ltb, ltb-true}
use Rattle.std.proofs.lemmas.Slice.Eq.{bytes_eq-Decides}
use Rattle.sms_base.specs.declared.final_state.FinalState.{FinalState}
use Rattle.sms_base.specs.declared.originator.Originator.{Originator}
use Rattle.sms_base.specs.declared.originator.Originator.TheVariants.{Application, Handset}
use Rattle.sms_rows.specs.table.Table.{Rises}
use Rattle.sms_tpdu.specs.declared.carrier.Carrier.TheVariants.{InData}
use Rattle.sms_tpdu.specs.declared.down.Down.{Down}
use Rattle.sms_tpdu.specs.declared.down.Down.TheVariants.{Deliver, StatusReport, SubmitReport}
use Rattle.sms_tpdu.specs.declared.fault.TpduFault.{TpduFault}
use Rattle.sms_tpdu.specs.declared.status_report.StatusReport.{StatusReport as StatusReportOf}
use Rattle.sms_tpdu.specs.TpduReading.{down_at}
use Rattle.sms_centre_rows.specs.declared.messages.message.MessageRow.{MessageRow}
use Rattle.sms_centre_rows.specs.messages.Messages.{message_at}
use Rattle.sms_centre_rows.specs.declared.reports.report.ReportKind.{ReportKind}
use Rattle.sms_centre_rows.specs.declared.reports.report.ReportKind.TheVariants.{Receipt, Status, Unsent}
use Rattle.sms_centre_rows.specs.declared.reports.report.ReportRow.{ReportRow}
use Rattle.sms_centre_rows.specs.reports.Reports.{report_key}
use Rattle.sms_centre_rows.specs.reports.SoundReports.{FitsOriginator, IsReport, IsStatus, SoundReports}
use Rattle.sms_centre_rows.specs.conditions.ReportTest.{ReportsPass, fits_originator, id_of, is_report, is_status_of, reports_end}
use Rattle.sms_centre_spec.proofs.conditions.DifferTested.{distinct_from, distinct_to, keys_differ, one_row}
use Rattle.sms_centre_rows.proofs.conditions.Passing.{each_from, each_to, is_there, there_is}

-- ---- status reports

status_from : (n : ℕ) (m : MessageRow) (made : ℕ) (tpdu : List ℕ) (r : Result Down TpduFault) → down_at InData tpdu ≡ r → nat_le (length tpdu) 200 ≡ true → is_status_of n m made r ≡ true
    → (d : StatusReportOf) × IsStatus n m made tpdu d
status_from n m made tpdu (Ok (StatusReport d)) read fits e =
    let a = and_parts ((d.message_reference == n) && bytes_eq d.recipient_address.digits m.handset)
    (((d.service_centre_time_stamp == m.submitted) && (d.discharge_time == made)) && d.no_more_messages_to_send) e in
    let b = and_parts (d.message_reference == n) (bytes_eq d.recipient_address.digits m.handset) a.0 in
    let c = and_parts ((d.service_centre_time_stamp == m.submitted) && (d.discharge_time == made)) d.no_more_messages_to_send a.1 in
    let f = and_parts (d.service_centre_time_stamp == m.submitted) (d.discharge_time == made) c.0 in (
      d,
      record {
        read = read;
        message = eqb-true d.message_reference n b.0;
        recipient = (bytes_eq-Decides d.recipient_address.digits m.handset).0 b.1;
        submitted = eqb-true d.service_centre_time_stamp m.submitted f.0;
        discharged = eqb-true d.discharge_time made f.1;
        no_more = c.1;
        fits = leb-true (length tpdu) 200 fits;
      },
    )
status_from n m made tpdu (Ok (Deliver d)) read fits e = absurd cc
status_from n m made tpdu (Ok (SubmitReport d)) read fits e = absurd cc
status_from n m made tpdu (Err f) read fits e = absurd cc

status_to : (n : ℕ) (m : MessageRow) (made : ℕ) (tpdu : List ℕ) (d : StatusReportOf) → IsStatus n m made tpdu d → is_status_of n m made (down_at InData tpdu) ≡ true
status_to n m made tpdu d is =
    ap (λ (r : Result Down TpduFault). is_status_of n m made r) is.read
    ∙ and_from ((d.message_reference == n) && bytes_eq d.recipient_address.digits m.handset)
    (((d.service_centre_time_stamp == m.submitted) && (d.discharge_time == made)) && d.no_more_messages_to_send)
    (and_from (d.message_reference == n) (bytes_eq d.recipient_address.digits m.handset) (eq-eqb d.message_reference n is.message) ((bytes_eq-Decides d.recipient_address.digits m.handset).1 is.recipient))
    (and_from ((d.service_centre_time_stamp == m.submitted) && (d.discharge_time == made)) d.no_more_messages_to_send
    (and_from (d.service_centre_time_stamp == m.submitted) (d.discharge_time == made) (eq-eqb d.service_centre_time_stamp m.submitted is.submitted) (eq-eqb d.discharge_time made is.discharged)) is.no_more)

-- ---- whom a report tells

fits_from : (k : ReportKind) (o : Originator) (m : MessageRow) (r : ReportRow) → fits_originator k o m r ≡ true → FitsOriginator k o m r
fits_from Receipt (Application a) m r e = tt
fits_from Receipt (Handset n) m r e = absurd cc
fits_from (Status reference tpdu) (Application a) m r e = absurd cc
fits_from (Status reference tpdu) (Handset n) m r e =
    let a = and_parts (nat_lt reference 256) (nat_le (length tpdu) 200 && is_status_of n m r.made (down_at InData tpdu)) e in
    let b = and_parts (nat_le (length tpdu) 200) (is_status_of n m r.made (down_at InData tpdu)) a.1 in
    (ltb-true reference 256 a.0, status_from n m r.made tpdu (down_at InData tpdu) refl b.0 b.1)
fits_from Unsent (Application a) m r e = absurd cc
fits_from Unsent (Handset n) m r e = e

fits_to : (k : ReportKind) (o : Originator) (m : MessageRow) (r : ReportRow) → FitsOriginator k o m r → fits_originator k o m r ≡ true
fits_to Receipt (Application a) m r is = refl
fits_to Receipt (Handset n) m r is = absurd is
fits_to (Status reference tpdu) (Application a) m r is = absurd is
fits_to (Status reference tpdu) (Handset n) m r is =
    let d : StatusReportOf = is.1.0 in
    let status : IsStatus n m r.made tpdu d = is.1.1 in
    and_from (nat_lt reference 256) (nat_le (length tpdu) 200 && is_status_of n m r.made (down_at InData tpdu)) (lt-ltb reference 256 is.0)
    (and_from (nat_le (length tpdu) 200) (is_status_of n m r.made (down_at InData tpdu)) (le-leb (length tpdu) 200 status.fits) (status_to n m r.made tpdu d status))
fits_to Unsent (Application a) m r is = absurd is
fits_to Unsent (Handset n) m r is = is

-- ---- a report

-- its message has ended, and it tells that originator
abbrev IsReportedTo : ReportRow → Option MessageRow → Type 0
IsReportedTo r o = (m : MessageRow) × ((o ≡ Some m) × (((state : FinalState) × (m.state ≡ Some state)) × FitsOriginator r.kind m.originator m r))

decides_from : (r : ReportRow) (o : Option MessageRow) → reports_end r o ≡ true → IsReportedTo r o
decides_from r None e = absurd cc
decides_from r (Some m) e =
    let a = and_parts (is_some m.state) (fits_originator r.kind m.originator m r) e in
    (m, (refl, (there_is m.state a.0, fits_from r.kind m.originator m r a.1)))

decides_to : (r : ReportRow) (o : Option MessageRow) → IsReportedTo r o → reports_end r o ≡ true
decides_to r o is =
    let m : MessageRow = is.0 in
    let state : FinalState = is.1.1.0.0 in
    let ended : m.state ≡ Some state = is.1.1.0.1 in
    ap (λ (x : Option MessageRow). reports_end r x) is.1.0
    ∙ and_from (is_some m.state) (fits_originator r.kind m.originator m r) (is_there m.state state ended) (fits_to r.kind m.originator m r is.1.1.1)

report_from : (messages : List MessageRow) (r : ReportRow) → is_report messages r ≡ true → IsReport messages r
report_from messages r e =
    let a = and_parts (reports_end r (message_at r.id messages)) (nat_lt 0 r.place) e in
    record { place = ltb-true 0 r.place a.1; message = decides_from r (message_at r.id messages) a.0 }

report_to : (messages : List MessageRow) (r : ReportRow) → IsReport messages r → is_report messages r ≡ true
report_to messages r is = and_from (reports_end r (message_at r.id messages)) (nat_lt 0 r.place) (decides_to r (message_at r.id messages) is.message) (lt-ltb 0 r.place is.place)

-- ---- all of them

pub reports_from : (messages : List MessageRow) (reports : List ReportRow) → Rises report_key reports → ReportsPass messages reports → SoundReports messages reports
reports_from messages reports rises pass = record {
  keys = rises;
  each = λ r m. report_from messages r (each_from (λ x. is_report messages x) reports pass.each r m);
  once = λ r s a b e. ap (λ (x : ReportRow). x.place) (one_row id_of r s reports (distinct_from (map id_of reports) pass.ids) a b e);
}

pub reports_to : (messages : List MessageRow) (reports : List ReportRow) → SoundReports messages reports → ReportsPass messages reports
reports_to messages reports s = record {
  each = each_to (λ x. is_report messages x) reports (λ r m. report_to messages r (s.each r m));
  ids = distinct_to (map id_of reports) (keys_differ id_of report_key reports s.keys (λ x y a b e. s.once x y a b e));
}
