-- How long what is written is.
use Rattle.std.proofs.Common.{◌≡◌, ℕ, ◌<◌, ◌≤◌, Bool, true, false, cond, eqb, List, [], ◌∷◌, ◌++◌, length, Option, Some, None, append_assoc, refl, ap, ◌∙◌, arith, Result, Ok, Err}
use Rattle.std.specs.Prelude.{IfOk}
use Rattle.std.proofs.lemmas.List.{length-append}
use Rattle.std.specs.declared.alloc.AllocError.{AllocError}
use Rattle.sms_base.proofs.WrittenStamps.{written_is_stamp}
use Rattle.sms_alphabet.specs.declared.scheme.Coding.{Coding}
use Rattle.sms_alphabet.specs.declared.scheme.Coding.TheVariants.{Septets, Octets, Ucs2, Compressed}
use Rattle.sms_tpdu.specs.declared.user_data.UserData.{UserData}
use Rattle.sms_tpdu.specs.declared.parameters.Parameters.{Parameters}
use Rattle.sms_tpdu.specs.declared.deliver.Deliver.{Deliver}
use Rattle.sms_tpdu.specs.declared.submit_report.SubmitReport.{SubmitReport}
use Rattle.sms_tpdu.specs.declared.submit.Submit.{Submit}
use Rattle.sms_tpdu.specs.declared.deliver_report.DeliverReport.{DeliverReport}
use Rattle.sms_tpdu.specs.declared.status_report.StatusReport.{StatusReport}
use Rattle.sms_tpdu.specs.declared.validity_period.ValidityPeriod.{ValidityPeriod}
use Rattle.sms_tpdu.specs.declared.validity_period.ValidityPeriod.TheVariants.{NotPresent, Relative, Absolute}
use Rattle.sms_tpdu.specs.AddressGrammar.{address_field}
use Rattle.sms_tpdu.specs.UserDataGrammar.{IsUserData, user_data_field, greatest_length, octets_of}
use Rattle.sms_tpdu.specs.TpduGrammar.{IsWrittenDeliver, IsWrittenSubmit, IsWrittenSubmitReport, IsWrittenDeliverReport, IsWrittenStatusReport, IsWrittenValidityField, status_report_fields, status_report_head, status_tail, indicator_of, octet_field, data_field, report_coding, IsOptionalData, IsReportData, parameter_fields}
use Rattle.sms_tpdu.proofs.Times.{stamp_len}
use Rattle.sms_tpdu.proofs.NameValues.{field_short}

pub few_octets : (coding : Coding) (n : ℕ) → n ≤ greatest_length coding → octets_of coding n ≤ 140
few_octets Septets n le = omega arith
few_octets Octets n le = le
few_octets Ucs2 n le = le
few_octets Compressed n le = le

data_short : (coding : Coding) (with_header : Bool) (u : UserData) → IsUserData coding with_header u → length (user_data_field u) ≤ 141
data_short coding with_header u h = omega (arith, few_octets coding u.length h.within, h.whole)

pub deliver_short : (r : Result (List ℕ) AllocError) (d : Deliver) → IfOk r (λ o. IsWrittenDeliver o d) → IfOk r (λ o. length o < 256)
deliver_short (Err e) d h = tt
deliver_short (Ok o) d (stamp, is_address, is_stamp, is_text, whole) =
    let from = address_field d.originating_address in
    let f = field_short d.originating_address is_address in
    let s : length stamp ≡ 7 = stamp_len stamp d.service_centre_time_stamp (written_is_stamp stamp d.service_centre_time_stamp is_stamp) in
    let t = data_short _ _ d.user_data is_text in
    rw whole (omega (arith, f, s, t, length-append from (d.protocol_identifier ∷ d.data_coding_scheme ∷ (stamp ++ user_data_field d.user_data)), length-append stamp (user_data_field d.user_data)))

octet_short : (o : Option ℕ) → length (octet_field o) ≤ 1
octet_short None = omega arith
octet_short (Some octet) = omega arith

optional_short : (coding : Coding) (with_header : Bool) (o : Option UserData) → IsOptionalData coding with_header o → length (data_field o) ≤ 141
optional_short coding with_header None h = omega arith
optional_short coding with_header (Some text) h = data_short coding with_header text h

pub parameters_short : (with_header : Bool) (p : Parameters) → IsReportData with_header p → length (parameter_fields p) ≤ 143
parameters_short with_header p h =
    omega (
      arith,
      octet_short p.protocol_identifier,
      octet_short p.data_coding_scheme,
      optional_short (report_coding p.data_coding_scheme) with_header p.user_data h,
      length-append (octet_field p.protocol_identifier) (octet_field p.data_coding_scheme ++ data_field p.user_data),
      length-append (octet_field p.data_coding_scheme) (data_field p.user_data),
    )

pub submit_report_short : (r : Result (List ℕ) AllocError) (s : SubmitReport) → IfOk r (λ o. IsWrittenSubmitReport o s) → IfOk r (λ o. length o < 256)
submit_report_short (Err e) s h = tt
submit_report_short (Ok o) s (stamp, is_stamp, is_data, whole) =
    let t : length stamp ≡ 7 = stamp_len stamp s.service_centre_time_stamp (written_is_stamp stamp s.service_centre_time_stamp is_stamp) in
    let p = parameters_short false s.parameters is_data in
    rw whole (omega (arith, t, p, octet_short s.failure_cause, length-append (octet_field s.failure_cause) (indicator_of s.parameters ∷ (stamp ++ parameter_fields s.parameters)), length-append stamp (parameter_fields s.parameters)))

validity_short : (text : List ℕ) (v : ValidityPeriod) → IsWrittenValidityField text v → length text ≤ 7
validity_short text NotPresent h = rw h (omega arith)
validity_short text (Relative period) h = rw h (omega arith)
validity_short text (Absolute moment) h = omega (arith, stamp_len text moment (written_is_stamp text moment h))

pub submit_short : (r : Result (List ℕ) AllocError) (s : Submit) → IfOk r (λ o. IsWrittenSubmit o s) → IfOk r (λ o. length o < 256)
submit_short (Err e) s h = tt
submit_short (Ok o) s (period, is_address, is_period, is_text, whole) =
    let to = address_field s.destination_address in
    rw whole (omega (
      arith,
      field_short s.destination_address is_address,
      validity_short period s.validity_period is_period,
      data_short _ _ s.user_data is_text,
      length-append to (s.protocol_identifier ∷ s.data_coding_scheme ∷ (period ++ user_data_field s.user_data)),
      length-append period (user_data_field s.user_data),
    ))

pub deliver_report_short : (r : Result (List ℕ) AllocError) (s : DeliverReport) → IfOk r (λ o. IsWrittenDeliverReport o s) → IfOk r (λ o. length o < 256)
deliver_report_short (Err e) s h = tt
deliver_report_short (Ok o) s (is_data, whole) =
    rw whole (omega (arith, parameters_short false s.parameters is_data, octet_short s.failure_cause, length-append (octet_field s.failure_cause) (indicator_of s.parameters ∷ parameter_fields s.parameters)))

tail_by : (b : Bool) (with_header : Bool) (p : Parameters) → IsReportData with_header p → length (cond b [] (indicator_of p ∷ parameter_fields p)) ≤ 144
tail_by true with_header p h = omega arith
tail_by false with_header p h = omega (arith, parameters_short with_header p h)

pub status_report_short : (r : Result (List ℕ) AllocError) (s : StatusReport) → IfOk r (λ o. IsWrittenStatusReport o s) → IfOk r (λ o. length o < 256)
status_report_short (Err e) s h = tt
status_report_short (Ok o) s (stamp, discharge, is_address, is_stamp, is_discharge, is_data, whole) =
    let to = address_field s.recipient_address in
    let a : length stamp ≡ 7 = stamp_len stamp s.service_centre_time_stamp (written_is_stamp stamp s.service_centre_time_stamp is_stamp) in
    let b : length discharge ≡ 7 = stamp_len discharge s.discharge_time (written_is_stamp discharge s.discharge_time is_discharge) in
    let t : length (status_tail s.parameters) ≤ 144 = tail_by (eqb (indicator_of s.parameters) 0) s.user_data_header_indicator s.parameters is_data in
    let c = length-append to (stamp ++ (discharge ++ (s.status ∷ []))) in
    let d = length-append stamp (discharge ++ (s.status ∷ [])) in
    let f = length-append discharge (s.status ∷ []) in
    rw whole (omega (arith, a, b, t, c, d, f, field_short s.recipient_address is_address, length-append (status_report_fields (status_report_head s) to stamp discharge s) (status_tail s.parameters)))

-- the pieces of a STATUS-REPORT, one behind the other
pub status_whole : (o0 o1 o2 o3 o4 o5 o6 o7 to stamp discharge tail : List ℕ) (h head reference status : ℕ) → o0 ≡ [] → h ≡ head → o1 ≡ o0 ++ h ∷ [] → o2 ≡ o1 ++ reference ∷ [] → o3 ≡ o2 ++ to → o4 ≡ o3 ++ stamp → o5 ≡ o4 ++ discharge → o6 ≡ o5 ++ status ∷ [] → o7 ≡ o6 ++ tail
    → o7 ≡ (head ∷ reference ∷ (to ++ (stamp ++ (discharge ++ (status ∷ []))))) ++ tail
status_whole o0 o1 o2 o3 o4 o5 o6 o7 to stamp discharge tail h head reference status e0 eh e1 e2 e3 e4 e5 e6 e7 =
    let a : o2 ≡ head ∷ reference ∷ [] = rw (e2, e1, e0, eh) refl in
    let b : o6 ≡ head ∷ reference ∷ (((to ++ stamp) ++ discharge) ++ (status ∷ [])) = rw (e6, e5, e4, e3, a) refl in
    let shape : ((to ++ stamp) ++ discharge) ++ (status ∷ []) ≡ to ++ (stamp ++ (discharge ++ (status ∷ []))) = append_assoc (to ++ stamp) discharge (status ∷ []) ∙ append_assoc to stamp (discharge ++ (status ∷ [])) in
    e7 ∙ ap (λ (l : List ℕ). l ++ tail) (b ∙ ap (λ (l : List ℕ). head ∷ reference ∷ l) shape)
