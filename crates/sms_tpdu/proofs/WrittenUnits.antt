-- What is written is in the grammar, and a value has one written list.
use Rattle.std.proofs.Common.{◌≡◌, ℕ, zero, suc, ◌+◌, ◌*◌, ◌/◌, ◌%◌, ◌<◌, ◌≤◌, Bool, true, false, cond, eqb, ltb, List, [], ◌∷◌, ◌++◌, length, get_or, Option, Some, None, Ok, refl, sym, ap, ◌∙◌, arith}
use Rattle.std.specs.Prelude.{Contains, is_some}
use Rattle.std.specs.List.{AllByRecursion, list_all}
use Rattle.std.proofs.lemmas.Bool.{ltb-true, eqb-true, and_parts}
use Rattle.std.proofs.lemmas.List.{append-nil}
use Rattle.std.proofs.lemmas.List.Elements.{All-from_recursion}
use Rattle.sms_base.specs.Address.{IsAddress, has_code}
use Rattle.sms_base.specs.AddressKind.{is_name}
use Rattle.sms_base.specs.Alphabet.{code_for}
use Rattle.sms_base.specs.declared.alphabet.Code.{Code}
use Rattle.sms_base.specs.declared.alphabet.Code.TheVariants.{Main, Extended}
use Rattle.sms_base.specs.declared.alphabet.TheConstants.{EXTENSION_TABLE}
use Rattle.sms_base.specs.declared.address.Address.{Address}
use Rattle.sms_base.proofs.Alphabets.{pair_of_code}
use Rattle.sms_base.proofs.WrittenStamps.{one_written, written_is_stamp}
use Rattle.sms_alphabet.specs.Packing.{AreSeptets, value_in, packed_len}
use Rattle.sms_alphabet.proofs.RoundTrip.{value-below}
use Rattle.sms_alphabet.proofs.Packed.{value_in-digits}
use Rattle.sms_tpdu.specs.declared.carrier.Carrier.{Carrier}
use Rattle.sms_tpdu.specs.declared.carrier.Carrier.TheVariants.{InData, InAck, InError}
use Rattle.sms_tpdu.specs.declared.validity_period.ValidityPeriod.{ValidityPeriod}
use Rattle.sms_tpdu.specs.declared.validity_period.ValidityPeriod.TheVariants.{NotPresent, Relative, Absolute}
use Rattle.sms_tpdu.specs.declared.user_data.UserData.{UserData}
use Rattle.sms_tpdu.specs.declared.parameters.Parameters.{Parameters}
use Rattle.sms_tpdu.specs.declared.deliver.Deliver.{Deliver as DeliverOf}
use Rattle.sms_tpdu.specs.declared.submit.Submit.{Submit as SubmitOf}
use Rattle.sms_tpdu.specs.declared.submit_report.SubmitReport.{SubmitReport as SubmitReportOf}
use Rattle.sms_tpdu.specs.declared.deliver_report.DeliverReport.{DeliverReport as DeliverReportOf}
use Rattle.sms_tpdu.specs.declared.status_report.StatusReport.{StatusReport as StatusReportOf}
use Rattle.sms_tpdu.specs.declared.down.Down.{Down}
use Rattle.sms_tpdu.specs.declared.down.Down.TheVariants.{Deliver, StatusReport, SubmitReport}
use Rattle.sms_tpdu.specs.declared.up.Up.{Up}
use Rattle.sms_tpdu.specs.declared.up.Up.TheVariants.{Submit, DeliverReport}
use Rattle.sms_tpdu.specs.Bits.{bit, bit_value}
use Rattle.sms_tpdu.specs.AddressGrammar.{code_septets, name_septets, name_semi_octets, octets_for, packed_name, type_of_address, IsSpelledAddress, IsAddressField, address_field, address_length, address_value}
use Rattle.sms_tpdu.specs.TpduGrammar.{IsDeliverHead, deliver_head, IsDeliver, IsWrittenDeliver, validity_format, IsValidityField, IsWrittenValidityField, IsSubmitHead, submit_head, IsSubmit, IsWrittenSubmit, submit_fields, deliver_fields, is_some_octet, is_some_data, IsIndicator, indicator_of, IsReportData, parameter_fields, HasCause, submit_report_fields, IsSubmitReport, IsWrittenSubmitReport, deliver_report_fields, IsDeliverReport, IsWrittenDeliverReport, IsStatusReportHead, status_report_head, no_parameters, IsStatusTail, status_tail, status_report_fields, IsStatusReport, IsWrittenStatusReport, IsDown, IsUp, IsWrittenDown, IsWrittenUp}
use Rattle.sms_tpdu.specs.TpduReading.{down_at, up_at}
use Rattle.sms_tpdu.proofs.Names.{name_reads}
use Rattle.sms_tpdu.proofs.NameValues.{name_few}
use Rattle.sms_tpdu.proofs.Powers.{holds, octets_len}
use Rattle.sms_tpdu.proofs.Carriers.{down_again, up_again}

-- ---- addresses

abbrev Pair : Type 0
Pair = ℕ × ℕ

all_at : (test : Pair → Bool) (xs : List Pair) (k : ℕ) (x : Pair) → list_all test xs ≡ true → k < length xs → test (get_or xs k x) ≡ true
all_at test [] k x e lt = absurd (omega arith)
all_at test (y ∷ xs) zero x e lt = (and_parts (test y) (list_all test xs) e).0
all_at test (y ∷ xs) (suc k) x e lt = all_at test xs k x (and_parts (test y) (list_all test xs) e).1 (omega arith)

is_septet : Pair → Bool
is_septet pair = ltb pair.0 128

extended_passes : list_all is_septet EXTENSION_TABLE ≡ true
unfolding is_septet
extended_passes = refl

extended_septet : (pair : Pair) → Contains EXTENSION_TABLE pair → pair.0 < 128
unfolding is_septet
extended_septet pair c = ltb-true pair.0 128 (ap is_septet (sym c.2) ∙ all_at is_septet EXTENSION_TABLE c.0 pair extended_passes c.1)

abbrev Small : List ℕ → Type 0
Small septets = AllByRecursion (λ s. s < 128) septets

small_before : (o : Option Code) (c : ℕ) (rest : List ℕ) → code_for c ≡ o → Small rest → Small (code_septets o ++ rest)
small_before None c rest e h = h
small_before (Some (Main s)) c rest e h = ((pair_of_code c (Main s) e).0, h)
small_before (Some (Extended s)) c rest e h = (omega arith, (extended_septet (s, c) (pair_of_code c (Extended s) e), h))

small_name : (text : List ℕ) → Small (name_septets text)
small_name [] = tt
small_name (c ∷ cs) = small_before (code_for c) c (name_septets cs) refl (small_name cs)

pub some_septets : (text : List ℕ) → 0 < length text → AllByRecursion (λ c. has_code c ≡ true) text → 0 < length (name_septets text)
some_septets [] lt h = absurd (omega arith)
some_septets (c ∷ cs) lt h = some_by (code_for c) (name_septets cs) h.0 where
  some_by : (o : Option Code) (rest : List ℕ) → is_some o ≡ true → 0 < length (code_septets o ++ rest)
  some_by (Some (Main s)) rest e = omega arith
  some_by (Some (Extended s)) rest e = omega arith
  some_by None rest e = absurd cc

written_by : (b : Bool) (a : Address) → is_name a.ton ≡ b → IsAddress a → IsSpelledAddress b (address_length b a.digits ∷ type_of_address a ∷ address_value b a.digits) a
written_by false a is h = refl
written_by true a is h =
    let name = h.digits.name is in
    let septets = name_septets a.digits in
    let n = length septets in
    let few : n ≤ 11 = name_few a h is in
    let some : 0 < n = some_septets a.digits h.digits.some name.characters in
    let small : AreSeptets septets = All-from_recursion (λ s. s < 128) septets (small_name a.digits) in
    let v = value_in 128 septets in
    let len : length (packed_name a.digits) ≡ octets_for (name_semi_octets n) = octets_len (packed_len 0 n) v ∙ omega arith in
    (name_semi_octets n, septets, packed_name a.digits, omega arith, omega arith, some, small, len, value_in-digits (packed_len 0 n) v (holds n v (value-below septets small)), sym (name_reads a.digits name.characters), refl)

pub written_address : (a : Address) → IsAddress a → IsAddressField (address_field a) a
written_address a h = record { valid = h; spelled = written_by (is_name a.ton) a refl h }

-- ---- bits

one_bit : (b : Bool) → (eqb (bit_value b 1) 1 ≡ b) × (bit_value b 1 < 2)
one_bit true = (refl, omega arith)
one_bit false = (refl, omega arith)

scaled : (b : Bool) (v : ℕ) → bit_value b v ≡ v * bit_value b 1
scaled true v = omega arith
scaled false v = omega arith

bit_is : (octet value : ℕ) (b : Bool) → octet / value % 2 ≡ bit_value b 1 → bit octet value ≡ b
bit_is octet value b e = ap (λ (n : ℕ). eqb n 1) e ∙ (one_bit b).0

-- ---- DELIVER

head_deliver : (d : DeliverOf) → IsDeliverHead (deliver_head d) d
head_deliver d =
    let a = d.no_more_messages_to_send in
    let b = d.loop_prevention in
    let c = d.status_report_indication in
    let f = d.user_data_header_indicator in
    let g = d.reply_path in
    let head : deliver_head d ≡ 4 * bit_value a 1 + 8 * bit_value b 1 + 32 * bit_value c 1 + 64 * bit_value f 1 + 128 * bit_value g 1 = rw (scaled a 4, scaled b 8, scaled c 32, scaled f 64, scaled g 128) refl in
    let la = (one_bit a).1 in let lb = (one_bit b).1 in let lc = (one_bit c).1 in let lf = (one_bit f).1 in let lg = (one_bit g).1 in
    record {
      message_type = omega (arith, head);
      no_more_messages = bit_is (deliver_head d) 4 a (omega (arith, head, la, lb, lc, lf, lg));
      loop_prevention = bit_is (deliver_head d) 8 b (omega (arith, head, la, lb, lc, lf, lg));
      status_report = bit_is (deliver_head d) 32 c (omega (arith, head, la, lb, lc, lf, lg));
      header = bit_is (deliver_head d) 64 f (omega (arith, head, la, lb, lc, lf, lg));
      reply_path = bit_is (deliver_head d) 128 g (omega (arith, head, la, lb, lc, lf, lg));
    }

written_deliver : (o : List ℕ) (d : DeliverOf) → IsWrittenDeliver o d → IsDeliver o d
written_deliver o d (stamp, is_address, is_stamp, is_text, whole) =
    (deliver_head d, address_field d.originating_address, stamp, head_deliver d, written_address d.originating_address is_address, written_is_stamp stamp d.service_centre_time_stamp is_stamp, is_text, whole)

one_deliver : (o p : List ℕ) (d : DeliverOf) → IsWrittenDeliver o d → IsWrittenDeliver p d → o ≡ p
one_deliver o p d (stamp, is_address, is_stamp, is_text, whole) (stamp', is_address', is_stamp', is_text', whole') =
    whole ∙ ap (λ (s : List ℕ). deliver_fields (deliver_head d) (address_field d.originating_address) s d) (one_written stamp stamp' d.service_centre_time_stamp is_stamp is_stamp') ∙ sym whole'

-- ---- SUBMIT

format_in : (v : ValidityPeriod) → validity_format v < 4
format_in NotPresent = omega arith
format_in (Relative period) = omega arith
format_in (Absolute moment) = omega arith

head_submit : (s : SubmitOf) → IsSubmitHead (submit_head s) s
head_submit s =
    let a = s.reject_duplicates in
    let v = validity_format s.validity_period in
    let c = s.status_report_request in
    let f = s.user_data_header_indicator in
    let g = s.reply_path in
    let head : submit_head s ≡ 1 + 4 * bit_value a 1 + 8 * v + 32 * bit_value c 1 + 64 * bit_value f 1 + 128 * bit_value g 1 = rw (scaled a 4, scaled c 32, scaled f 64, scaled g 128) refl in
    let la = (one_bit a).1 in let lv = format_in s.validity_period in let lc = (one_bit c).1 in let lf = (one_bit f).1 in let lg = (one_bit g).1 in
    record {
      message_type = omega (arith, head);
      reject_duplicates = bit_is (submit_head s) 4 a (omega (arith, head, la, lv, lc, lf, lg));
      validity = omega (arith, head, la, lv, lc, lf, lg);
      status_report = bit_is (submit_head s) 32 c (omega (arith, head, la, lv, lc, lf, lg));
      header = bit_is (submit_head s) 64 f (omega (arith, head, la, lv, lc, lf, lg));
      reply_path = bit_is (submit_head s) 128 g (omega (arith, head, la, lv, lc, lf, lg));
    }

written_validity : (text : List ℕ) (v : ValidityPeriod) → IsWrittenValidityField text v → IsValidityField text v
written_validity text NotPresent h = h
written_validity text (Relative period) h = h
written_validity text (Absolute moment) h = written_is_stamp text moment h

one_validity : (a b : List ℕ) (v : ValidityPeriod) → IsWrittenValidityField a v → IsWrittenValidityField b v → a ≡ b
one_validity a b NotPresent h k = h ∙ sym k
one_validity a b (Relative period) h k = h ∙ sym k
one_validity a b (Absolute moment) h k = one_written a b moment h k

written_submit : (o : List ℕ) (s : SubmitOf) → IsWrittenSubmit o s → IsSubmit o s
written_submit o s (period, is_address, is_period, is_text, whole) =
    (submit_head s, address_field s.destination_address, period, head_submit s, written_address s.destination_address is_address, written_validity period s.validity_period is_period, is_text, whole)

one_submit : (o p : List ℕ) (s : SubmitOf) → IsWrittenSubmit o s → IsWrittenSubmit p s → o ≡ p
one_submit o p s (period, is_address, is_period, is_text, whole) (period', is_address', is_period', is_text', whole') =
    whole ∙ ap (λ (l : List ℕ). submit_fields (submit_head s) (address_field s.destination_address) l s) (one_validity period period' s.validity_period is_period is_period') ∙ sym whole'

-- ---- reports

indicates : (p : Parameters) → IsIndicator (indicator_of p) p
indicates p =
    let a = is_some_octet p.protocol_identifier in
    let b = is_some_octet p.data_coding_scheme in
    let c = is_some_data p.user_data in
    let whole : indicator_of p ≡ bit_value a 1 + 2 * bit_value b 1 + 4 * bit_value c 1 = rw (scaled b 2, scaled c 4) refl in
    let la = (one_bit a).1 in let lb = (one_bit b).1 in let lc = (one_bit c).1 in
    record {
      protocol_identifier = bit_is (indicator_of p) 1 a (omega (arith, whole, la, lb, lc));
      data_coding_scheme = bit_is (indicator_of p) 2 b (omega (arith, whole, la, lb, lc));
      user_data = bit_is (indicator_of p) 4 c (omega (arith, whole, la, lb, lc));
    }

written_submit_report : (in_error : Bool) (o : List ℕ) (r : SubmitReportOf) → HasCause in_error r.failure_cause → IsWrittenSubmitReport o r → IsSubmitReport in_error o r
written_submit_report in_error o r cause (stamp, is_stamp, is_data, whole) =
    (1, indicator_of r.parameters, stamp, [], refl, cause, indicates r.parameters, written_is_stamp stamp r.service_centre_time_stamp is_stamp, is_data, tt, whole ∙ sym (append-nil (submit_report_fields 1 (indicator_of r.parameters) stamp r)))

one_submit_report : (o p : List ℕ) (r : SubmitReportOf) → IsWrittenSubmitReport o r → IsWrittenSubmitReport p r → o ≡ p
one_submit_report o p r (stamp, is_stamp, is_data, whole) (stamp', is_stamp', is_data', whole') =
    whole ∙ ap (λ (s : List ℕ). submit_report_fields 1 (indicator_of r.parameters) s r) (one_written stamp stamp' r.service_centre_time_stamp is_stamp is_stamp') ∙ sym whole'

written_deliver_report : (in_error : Bool) (o : List ℕ) (r : DeliverReportOf) → HasCause in_error r.failure_cause → IsWrittenDeliverReport o r → IsDeliverReport in_error o r
written_deliver_report in_error o r cause (is_data, whole) =
    (0, indicator_of r.parameters, [], refl, cause, indicates r.parameters, is_data, tt, whole ∙ sym (append-nil (deliver_report_fields 0 (indicator_of r.parameters) r)))

head_status : (r : StatusReportOf) → IsStatusReportHead (status_report_head r) r
head_status r =
    let a = r.no_more_messages_to_send in
    let b = r.status_report_qualifier in
    let c = r.user_data_header_indicator in
    let head : status_report_head r ≡ 2 + 4 * bit_value a 1 + 32 * bit_value b 1 + 64 * bit_value c 1 = rw (scaled a 4, scaled b 32, scaled c 64) refl in
    let la = (one_bit a).1 in let lb = (one_bit b).1 in let lc = (one_bit c).1 in
    record {
      message_type = omega (arith, head);
      no_more_messages = bit_is (status_report_head r) 4 a (omega (arith, head, la, lb, lc));
      qualifier = bit_is (status_report_head r) 32 b (omega (arith, head, la, lb, lc));
      header = bit_is (status_report_head r) 64 c (omega (arith, head, la, lb, lc));
    }

abbrev parameters_with : Option ℕ → Option ℕ → Option UserData → Parameters
parameters_with a b c = record { protocol_identifier = a; data_coding_scheme = b; user_data = c }

no_fields : (a b : Option ℕ) (c : Option UserData) → indicator_of (parameters_with a b c) ≡ 0 → parameters_with a b c ≡ no_parameters
no_fields None None None e = refl
no_fields None None (Some x) e = absurd (omega arith)
no_fields None (Some x) None e = absurd (omega arith)
no_fields None (Some x) (Some y) e = absurd (omega arith)
no_fields (Some x) None None e = absurd (omega arith)
no_fields (Some x) None (Some y) e = absurd (omega arith)
no_fields (Some x) (Some y) None e = absurd (omega arith)
no_fields (Some x) (Some y) (Some z) e = absurd (omega arith)

tail_by : (b : Bool) (with_header : Bool) (p : Parameters) → eqb (indicator_of p) 0 ≡ b → IsReportData with_header p → IsStatusTail with_header (cond b [] (indicator_of p ∷ parameter_fields p)) p
tail_by true with_header p e h = no_fields p.protocol_identifier p.data_coding_scheme p.user_data (eqb-true _ _ e)
tail_by false with_header p e h = ([], indicates p, h, tt, sym (append-nil (parameter_fields p)))

written_status_report : (o : List ℕ) (r : StatusReportOf) → IsWrittenStatusReport o r → IsStatusReport o r
written_status_report o r (stamp, discharge, is_address, is_stamp, is_discharge, is_data, whole) =
    (status_report_head r, address_field r.recipient_address, stamp, discharge, status_tail r.parameters, head_status r, written_address r.recipient_address is_address, written_is_stamp stamp r.service_centre_time_stamp is_stamp, written_is_stamp discharge r.discharge_time is_discharge, tail_by (eqb (indicator_of r.parameters) 0) r.user_data_header_indicator r.parameters refl is_data, whole)

one_status_report : (o p : List ℕ) (r : StatusReportOf) → IsWrittenStatusReport o r → IsWrittenStatusReport p r → o ≡ p
one_status_report o p r (stamp, discharge, is_address, is_stamp, is_discharge, is_data, whole) (stamp', discharge', is_address', is_stamp', is_discharge', is_data', whole') =
    let to = address_field r.recipient_address in
    whole ∙ ap (λ (s : List ℕ). status_report_fields (status_report_head r) to s discharge r ++ status_tail r.parameters) (one_written stamp stamp' r.service_centre_time_stamp is_stamp is_stamp')
    ∙ ap (λ (s : List ℕ). status_report_fields (status_report_head r) to stamp' s r ++ status_tail r.parameters) (one_written discharge discharge' r.discharge_time is_discharge is_discharge') ∙ sym whole'

-- ---- by carrier

pub written_down : (carrier : Carrier) (o : List ℕ) (t : Down) → IsWrittenDown carrier o t → IsDown carrier o t
written_down InData o (Deliver d) h = written_deliver o d h
written_down InData o (StatusReport r) h = written_status_report o r h
written_down InData o (SubmitReport r) h = absurd h
written_down InAck o (Deliver d) h = absurd h
written_down InAck o (StatusReport r) h = absurd h
written_down InAck o (SubmitReport r) h = written_submit_report false o r h.0 h.1
written_down InError o (Deliver d) h = absurd h
written_down InError o (StatusReport r) h = absurd h
written_down InError o (SubmitReport r) h = written_submit_report true o r h.0 h.1

pub written_down_is_read : (carrier : Carrier) (o : List ℕ) (t : Down) → IsWrittenDown carrier o t → IsDown carrier o t × (down_at carrier o ≡ Ok t)
written_down_is_read carrier o t h = let g = written_down carrier o t h in (g, down_again carrier o t g)

pub one_down : (carrier : Carrier) (o p : List ℕ) (t : Down) → IsWrittenDown carrier o t → IsWrittenDown carrier p t → o ≡ p
one_down InData o p (Deliver d) h k = one_deliver o p d h k
one_down InData o p (StatusReport r) h k = one_status_report o p r h k
one_down InData o p (SubmitReport r) h k = absurd h
one_down InAck o p (Deliver d) h k = absurd h
one_down InAck o p (StatusReport r) h k = absurd h
one_down InAck o p (SubmitReport r) h k = one_submit_report o p r h.1 k.1
one_down InError o p (Deliver d) h k = absurd h
one_down InError o p (StatusReport r) h k = absurd h
one_down InError o p (SubmitReport r) h k = one_submit_report o p r h.1 k.1

pub written_up : (carrier : Carrier) (o : List ℕ) (t : Up) → IsWrittenUp carrier o t → IsUp carrier o t
written_up InData o (Submit s) h = written_submit o s h
written_up InData o (DeliverReport r) h = absurd h
written_up InAck o (Submit s) h = absurd h
written_up InAck o (DeliverReport r) h = written_deliver_report false o r h.0 h.1
written_up InError o (Submit s) h = absurd h
written_up InError o (DeliverReport r) h = written_deliver_report true o r h.0 h.1

pub written_up_is_read : (carrier : Carrier) (o : List ℕ) (t : Up) → IsWrittenUp carrier o t → IsUp carrier o t × (up_at carrier o ≡ Ok t)
written_up_is_read carrier o t h = let g = written_up carrier o t h in (g, up_again carrier o t g)

pub one_up : (carrier : Carrier) (o p : List ℕ) (t : Up) → IsWrittenUp carrier o t → IsWrittenUp carrier p t → o ≡ p
one_up InData o p (Submit s) h k = one_submit o p s h k
one_up InData o p (DeliverReport r) h k = absurd h
one_up InAck o p (Submit s) h k = absurd h
one_up InAck o p (DeliverReport r) h k = h.1.1 ∙ sym k.1.1
one_up InError o p (Submit s) h k = absurd h
one_up InError o p (DeliverReport r) h k = h.1.1 ∙ sym k.1.1
