-- Octets that are missing can be added: the TPDUs.
use Rattle.std.proofs.Common.{◌≡◌, ℕ, ◌/◌, ◌%◌, Bool, true, false, cond, not, eqb, ltb, List, [], ◌∷◌, ◌++◌, Result, Ok, Err, refl, ap, ◌∙◌, arith}
use Rattle.sms_base.specs.Reading.{◌>>=◌, only_if, octet_in, end_in, AreOctets}
use Rattle.sms_alphabet.specs.DataCodingScheme.{coding_of}
use Rattle.sms_alphabet.specs.declared.scheme.Coding.{Coding}
use Rattle.sms_tpdu.specs.declared.fault.TpduFault.{TpduFault}
use Rattle.sms_tpdu.specs.declared.fault.TpduFault.TheVariants.{Truncated, TrailingOctets, UnsupportedType, UnsupportedValidity}
use Rattle.sms_tpdu.specs.declared.carrier.Carrier.{Carrier}
use Rattle.sms_tpdu.specs.declared.carrier.Carrier.TheVariants.{InData, InAck, InError}
use Rattle.sms_tpdu.specs.declared.deliver.Deliver.{Deliver as DeliverOf}
use Rattle.sms_tpdu.specs.declared.submit_report.SubmitReport.{SubmitReport as SubmitReportOf}
use Rattle.sms_tpdu.specs.declared.deliver_report.DeliverReport.{DeliverReport as DeliverReportOf}
use Rattle.sms_tpdu.specs.declared.status_report.StatusReport.{StatusReport as StatusReportOf}
use Rattle.sms_tpdu.specs.declared.down.Down.{Down}
use Rattle.sms_tpdu.specs.declared.down.Down.TheVariants.{Deliver, StatusReport, SubmitReport}
use Rattle.sms_tpdu.specs.declared.up.Up.{Up}
use Rattle.sms_tpdu.specs.declared.up.Up.TheVariants.{Submit, DeliverReport}
use Rattle.sms_tpdu.specs.Bits.{bit}
use Rattle.sms_tpdu.specs.AddressReading.{address_in}
use Rattle.sms_tpdu.specs.TimeReading.{time_in}
use Rattle.sms_tpdu.specs.UserDataReading.{user_data_in}
use Rattle.sms_tpdu.specs.TpduGrammar.{report_coding, no_parameters, IsDown, IsUp}
use Rattle.sms_tpdu.specs.TpduReading.{deliver_at, relative_in, absolute_in, validity_in, submit_rest_in, submit_at, optional_octet_in, optional_data_in, parameters_in, follows_in, submit_report_at, deliver_report_at, status_tail_in, status_report_at, data_down_at, report_down_at, down_at, data_up_at, report_up_at, up_at}
use Rattle.sms_tpdu.proofs.Carriers.{down_takes, up_takes}
use Rattle.sms_tpdu.proofs.FaultSteps.{no_fault, at_once, behind, cause_of, Reading, octet_field_is, Completes, CompletesWhole, joined_fits, octet_completes, pure_completes, bind_completes, whole_completes, end_completes}
use Rattle.sms_tpdu.proofs.FaultFields.{address_field_is, time_field_is, data_field_is, validity_field_is, optional_octet_field_is, optional_data_field_is, parameters_field_is}
use Rattle.sms_tpdu.proofs.Completing.{passed, time_completes, address_completes, data_completes}

type_isn't : UnsupportedType ≡ Truncated → ⊥
type_isn't p = absurd cc

format_isn't : UnsupportedValidity ≡ Truncated → ⊥
format_isn't p = absurd cc

-- ---- fields

relative_completes : Completes relative_in
unfolding relative_in
relative_completes = bind_completes (octet_in Truncated) _ octet_field_is octet_completes (λ period. pure_completes _)

absolute_completes : Completes absolute_in
unfolding absolute_in
absolute_completes = bind_completes time_in _ time_field_is time_completes (λ limit. pure_completes _)

either_completes : {X : Type 0} (b : Bool) (r s : Reading X) → Completes r → Completes s → Completes (λ xs. cond b (r xs) (s xs))
either_completes true r s h k = record { grows = h.grows; starts = h.starts }
either_completes false r s h k = record { grows = k.grows; starts = k.starts }

validity_completes : (format : ℕ) → Completes (validity_in format)
unfolding validity_in
validity_completes format = either_completes (eqb format 0) _ _ (pure_completes _) (either_completes (eqb format 2) relative_in absolute_in relative_completes absolute_completes)

optional_octet_completes : (b : Bool) → Completes (optional_octet_in b)
unfolding optional_octet_in
optional_octet_completes false = pure_completes _
optional_octet_completes true = bind_completes (octet_in Truncated) _ octet_field_is octet_completes (λ octet. pure_completes _)

optional_data_completes : (b : Bool) (coding : Coding) (with_header : Bool) → Completes (optional_data_in b coding with_header)
unfolding optional_data_in
optional_data_completes false coding with_header = pure_completes _
optional_data_completes true coding with_header = bind_completes (user_data_in coding with_header) _ (data_field_is coding with_header) (data_completes coding with_header) (λ text. pure_completes _)

parameters_complete : (indicator : ℕ) (with_header : Bool) → Completes (parameters_in indicator with_header)
unfolding parameters_in
parameters_complete indicator with_header =
    bind_completes (optional_octet_in (bit indicator 1)) _ (optional_octet_field_is (bit indicator 1)) (optional_octet_completes (bit indicator 1)) (λ protocol.
    bind_completes (optional_octet_in (bit indicator 2)) _ (optional_octet_field_is (bit indicator 2)) (optional_octet_completes (bit indicator 2)) (λ scheme.
    bind_completes (optional_data_in (bit indicator 4) (report_coding scheme) with_header) _ (optional_data_field_is (bit indicator 4) (report_coding scheme) with_header) (optional_data_completes (bit indicator 4) (report_coding scheme) with_header) (λ text. pure_completes _)))

-- ---- the first octet, and what follows it

-- some octets complete what begins with that octet
abbrev Begun : {Z : Type 0} → (List ℕ → Result Z TpduFault) → ℕ → Type 0
Begun {Z} read first = (ys : List ℕ) × (AreOctets ys × ((z : Z) × (read (first ∷ ys) ≡ Ok z)))

abbrev Continues : {Z : Type 0} → (List ℕ → Result Z TpduFault) → List ℕ → Type 0
Continues {Z} read xs = (ys : List ℕ) × (AreOctets ys × ((z : Z) × (read (xs ++ ys) ≡ Ok z)))

-- ---- DELIVER

abbrev deliver_body : ℕ → List ℕ → Result DeliverOf TpduFault
deliver_body first octets = do
  from ← address_in octets
  protocol ← octet_in Truncated from.1
  scheme ← octet_in Truncated protocol.1
  stamp ← time_in scheme.1
  text ← user_data_in (coding_of scheme.0) (bit first 64) stamp.1
  done ← end_in TrailingOctets text.1
  Ok (record { no_more_messages_to_send = bit first 4; loop_prevention = bit first 8; status_report_indication = bit first 32; user_data_header_indicator = bit first 64; reply_path = bit first 128; originating_address = from.0; protocol_identifier = protocol.0; data_coding_scheme = scheme.0; service_centre_time_stamp = stamp.0; user_data = text.0 })

deliver_body_completes : (first : ℕ) → CompletesWhole (deliver_body first)
deliver_body_completes first =
    whole_completes address_in _ address_field_is address_completes (λ from.
    whole_completes (octet_in Truncated) _ octet_field_is octet_completes (λ protocol.
    whole_completes (octet_in Truncated) _ octet_field_is octet_completes (λ scheme.
    whole_completes time_in _ time_field_is time_completes (λ stamp.
    whole_completes (user_data_in (coding_of scheme) (bit first 64)) _ (data_field_is (coding_of scheme) (bit first 64)) (data_completes (coding_of scheme) (bit first 64)) (λ text.
    end_completes _)))))

deliver_begun : Begun deliver_at 0
unfolding deliver_at
deliver_begun = (deliver_body_completes 0).starts

deliver_continues : (xs : List ℕ) → AreOctets xs → deliver_at xs ≡ Err Truncated → Continues deliver_at xs
unfolding deliver_at
deliver_continues [] fits e = let s = deliver_begun in (0 ∷ s.0, ((omega arith, s.1.0), s.1.1))
deliver_continues (first ∷ xs) fits e =
    let p = passed (eqb (first % 4) 0) UnsupportedType (deliver_body first xs) type_isn't e in
    let g = (deliver_body_completes first).grows xs fits.1 p.1 in
    (g.0, (g.1.0, (g.1.1.0, ap (λ (b : Bool). only_if b UnsupportedType >>= (λ u. deliver_body first (xs ++ g.0))) p.0 ∙ g.1.1.1)))

-- ---- SUBMIT

submit_rest_completes : (first : ℕ) → CompletesWhole (submit_rest_in first)
unfolding submit_rest_in
submit_rest_completes first =
    whole_completes (octet_in Truncated) _ octet_field_is octet_completes (λ reference.
    whole_completes address_in _ address_field_is address_completes (λ to.
    whole_completes (octet_in Truncated) _ octet_field_is octet_completes (λ protocol.
    whole_completes (octet_in Truncated) _ octet_field_is octet_completes (λ scheme.
    whole_completes (validity_in (first / 8 % 4)) _ (validity_field_is (first / 8 % 4)) (validity_completes (first / 8 % 4)) (λ period.
    whole_completes (user_data_in (coding_of scheme) (bit first 64)) _ (data_field_is (coding_of scheme) (bit first 64)) (data_completes (coding_of scheme) (bit first 64)) (λ text.
    end_completes _))))))

submit_continues : (xs : List ℕ) → AreOctets xs → submit_at xs ≡ Err Truncated → Continues submit_at xs
unfolding submit_at
submit_continues [] fits e = let s = (submit_rest_completes 1).starts in (1 ∷ s.0, ((omega arith, s.1.0), s.1.1))
submit_continues (first ∷ xs) fits e =
    let p = passed (eqb (first % 4) 1) UnsupportedType (only_if (not (eqb (first / 8 % 4) 1)) UnsupportedValidity >>= (λ u. submit_rest_in first xs)) type_isn't e in
    let q = passed (not (eqb (first / 8 % 4) 1)) UnsupportedValidity (submit_rest_in first xs) format_isn't p.1 in
    let g = (submit_rest_completes first).grows xs fits.1 q.1 in (
      g.0,
      (
        g.1.0,
        (
          g.1.1.0,
          ap (λ (b : Bool). only_if b UnsupportedType >>= (λ u. only_if (not (eqb (first / 8 % 4) 1)) UnsupportedValidity >>= (λ v. submit_rest_in first (xs ++ g.0)))) p.0
              ∙ ap (λ (b : Bool). only_if b UnsupportedValidity >>= (λ v. submit_rest_in first (xs ++ g.0))) q.0 ∙ g.1.1.1,
        ),
      ),
    )

-- ---- reports

follows_completes : {Z : Type 0} (indicator : ℕ) (z : Z) → CompletesWhole (λ xs. follows_in indicator xs >>= (λ u. Ok z))
unfolding follows_in
follows_completes {Z} indicator z = by (ltb indicator 8)
  where
    by : (b : Bool) → CompletesWhole (λ xs. cond b (end_in TrailingOctets xs) (Ok tt) >>= (λ u. Ok z))
    by true = let h = end_completes z in record { grows = h.grows; starts = h.starts }
    by false = record { grows = λ xs fits e. absurd (no_fault {X = Z} z Truncated e); starts = ([], (tt, (z, refl))) }

abbrev submit_report_body : Bool → List ℕ → Result SubmitReportOf TpduFault
submit_report_body in_error octets = do
  cause ← optional_octet_in in_error octets
  indicator ← octet_in Truncated cause.1
  stamp ← time_in indicator.1
  parameters ← parameters_in indicator.0 false stamp.1
  done ← follows_in indicator.0 parameters.1
  Ok (record { failure_cause = cause.0; service_centre_time_stamp = stamp.0; parameters = parameters.0 })

submit_report_body_completes : (in_error : Bool) → CompletesWhole (submit_report_body in_error)
submit_report_body_completes in_error =
    whole_completes (optional_octet_in in_error) _ (optional_octet_field_is in_error) (optional_octet_completes in_error) (λ cause.
    whole_completes (octet_in Truncated) _ octet_field_is octet_completes (λ indicator.
    whole_completes time_in _ time_field_is time_completes (λ stamp.
    whole_completes (parameters_in indicator false) _ (parameters_field_is indicator false) (parameters_complete indicator false) (λ parameters.
    follows_completes indicator _))))

submit_report_continues : (in_error : Bool) (xs : List ℕ) → AreOctets xs → submit_report_at in_error xs ≡ Err Truncated → Continues (submit_report_at in_error) xs
unfolding submit_report_at
submit_report_continues in_error [] fits e = let s = (submit_report_body_completes in_error).starts in (1 ∷ s.0, ((omega arith, s.1.0), s.1.1))
submit_report_continues in_error (first ∷ xs) fits e =
    let p = passed (eqb (first % 4) 1) UnsupportedType (submit_report_body in_error xs) type_isn't e in
    let g = (submit_report_body_completes in_error).grows xs fits.1 p.1 in
    (g.0, (g.1.0, (g.1.1.0, ap (λ (b : Bool). only_if b UnsupportedType >>= (λ u. submit_report_body in_error (xs ++ g.0))) p.0 ∙ g.1.1.1)))

abbrev deliver_report_body : Bool → List ℕ → Result DeliverReportOf TpduFault
deliver_report_body in_error octets = do
  cause ← optional_octet_in in_error octets
  indicator ← octet_in Truncated cause.1
  parameters ← parameters_in indicator.0 false indicator.1
  done ← follows_in indicator.0 parameters.1
  Ok (record { failure_cause = cause.0; parameters = parameters.0 })

deliver_report_body_completes : (in_error : Bool) → CompletesWhole (deliver_report_body in_error)
deliver_report_body_completes in_error =
    whole_completes (optional_octet_in in_error) _ (optional_octet_field_is in_error) (optional_octet_completes in_error) (λ cause.
    whole_completes (octet_in Truncated) _ octet_field_is octet_completes (λ indicator.
    whole_completes (parameters_in indicator false) _ (parameters_field_is indicator false) (parameters_complete indicator false) (λ parameters.
    follows_completes indicator _)))

deliver_report_continues : (in_error : Bool) (xs : List ℕ) → AreOctets xs → deliver_report_at in_error xs ≡ Err Truncated → Continues (deliver_report_at in_error) xs
unfolding deliver_report_at
deliver_report_continues in_error [] fits e = let s = (deliver_report_body_completes in_error).starts in (0 ∷ s.0, ((omega arith, s.1.0), s.1.1))
deliver_report_continues in_error (first ∷ xs) fits e =
    let p = passed (eqb (first % 4) 0) UnsupportedType (deliver_report_body in_error xs) type_isn't e in
    let g = (deliver_report_body_completes in_error).grows xs fits.1 p.1 in
    (g.0, (g.1.0, (g.1.1.0, ap (λ (b : Bool). only_if b UnsupportedType >>= (λ u. deliver_report_body in_error (xs ++ g.0))) p.0 ∙ g.1.1.1)))

announced_completes : (indicator : ℕ) (with_header : Bool) → CompletesWhole (λ xs. parameters_in indicator with_header xs >>= (λ parameters. follows_in indicator parameters.1 >>= (λ done. Ok parameters.0)))
announced_completes indicator with_header =
    whole_completes (parameters_in indicator with_header) _ (parameters_field_is indicator with_header) (parameters_complete indicator with_header) (λ parameters. follows_completes indicator parameters)

tail_continues : (with_header : Bool) (xs : List ℕ) → AreOctets xs → status_tail_in with_header xs ≡ Err Truncated → Continues (status_tail_in with_header) xs
unfolding status_tail_in
tail_continues with_header [] fits e = absurd cc
tail_continues with_header (indicator ∷ xs) fits e = (announced_completes indicator with_header).grows xs fits.1 e

tail_completes : (with_header : Bool) → CompletesWhole (status_tail_in with_header)
unfolding status_tail_in
tail_completes with_header = record { grows = tail_continues with_header; starts = ([], (tt, (no_parameters, refl))) }

made_continues : {Y Z : Type 0} (read : List ℕ → Result Y TpduFault) (make : Y → Z) (xs : List ℕ) → (read xs ≡ Err Truncated → Continues read xs) → (read xs >>= (λ y. Ok (make y))) ≡ Err Truncated → Continues (λ l. read l >>= (λ y. Ok (make y))) xs
made_continues {Y} {Z} read make xs h e = elim (cause_of (read xs) (λ y. Ok (make y)) Truncated e) [
  | at_once p ↦
      let g = h p in
      (g.0, (g.1.0, (make g.1.1.0, ap (λ (m : Result Y TpduFault). m >>= (λ y. Ok (make y))) g.1.1.1)))
  | behind y p q ↦ absurd (no_fault {X = Z} (make y) Truncated q)
]

made_completes : {Y Z : Type 0} (read : List ℕ → Result Y TpduFault) (make : Y → Z) → CompletesWhole read → CompletesWhole (λ xs. read xs >>= (λ y. Ok (make y)))
made_completes {Y} {Z} read make h = record {
  grows = λ xs fits e. made_continues read make xs (h.grows xs fits) e;
  starts = let s = h.starts in (s.0, (s.1.0, (make s.1.1.0, ap (λ (m : Result Y TpduFault). m >>= (λ y. Ok (make y))) s.1.1.1)));
}

abbrev status_body : ℕ → List ℕ → Result StatusReportOf TpduFault
status_body first octets = do
  reference ← octet_in Truncated octets
  to ← address_in reference.1
  stamp ← time_in to.1
  discharge ← time_in stamp.1
  status ← octet_in Truncated discharge.1
  parameters ← status_tail_in (bit first 64) status.1
  Ok (record { no_more_messages_to_send = bit first 4; status_report_qualifier = bit first 32; user_data_header_indicator = bit first 64; message_reference = reference.0; recipient_address = to.0; service_centre_time_stamp = stamp.0; discharge_time = discharge.0; status = status.0; parameters = parameters })

status_body_completes : (first : ℕ) → CompletesWhole (status_body first)
status_body_completes first =
    whole_completes (octet_in Truncated) _ octet_field_is octet_completes (λ reference.
    whole_completes address_in _ address_field_is address_completes (λ to.
    whole_completes time_in _ time_field_is time_completes (λ stamp.
    whole_completes time_in _ time_field_is time_completes (λ discharge.
    whole_completes (octet_in Truncated) _ octet_field_is octet_completes (λ status.
    made_completes (status_tail_in (bit first 64)) _ (tail_completes (bit first 64)))))))

status_report_continues : (xs : List ℕ) → AreOctets xs → status_report_at xs ≡ Err Truncated → Continues status_report_at xs
unfolding status_report_at
status_report_continues [] fits e = let s = (status_body_completes 2).starts in (2 ∷ s.0, ((omega arith, s.1.0), s.1.1))
status_report_continues (first ∷ xs) fits e =
    let p = passed (eqb (first % 4) 2) UnsupportedType (status_body first xs) type_isn't e in
    let g = (status_body_completes first).grows xs fits.1 p.1 in
    (g.0, (g.1.0, (g.1.1.0, ap (λ (b : Bool). only_if b UnsupportedType >>= (λ u. status_body first (xs ++ g.0))) p.0 ∙ g.1.1.1)))

-- ---- by carrier

data_down_continues : (xs : List ℕ) → AreOctets xs → data_down_at xs ≡ Err Truncated → Continues data_down_at xs
unfolding data_down_at
data_down_continues [] fits e =
    let s = deliver_begun in
    (0 ∷ s.0, ((omega arith, s.1.0), (Deliver s.1.1.0, ap (λ (m : Result DeliverOf TpduFault). m >>= (λ d. Ok (Deliver d))) s.1.1.1)))
data_down_continues (o ∷ xs) fits e = by (eqb (o % 4) 2) e
  where
    by : (b : Bool) → cond b (status_report_at (o ∷ xs) >>= (λ r. Ok (StatusReport r))) (deliver_at (o ∷ xs) >>= (λ d. Ok (Deliver d))) ≡ Err Truncated
        → (ys : List ℕ) × (AreOctets ys × ((z : Down) × (cond b (status_report_at (o ∷ (xs ++ ys)) >>= (λ r. Ok (StatusReport r))) (deliver_at (o ∷ (xs ++ ys)) >>= (λ d. Ok (Deliver d))) ≡ Ok z)))
    by true e = made_continues status_report_at (λ r. StatusReport r) (o ∷ xs) (status_report_continues (o ∷ xs) fits) e
    by false e = made_continues deliver_at (λ d. Deliver d) (o ∷ xs) (deliver_continues (o ∷ xs) fits) e

down_continues : (carrier : Carrier) (xs : List ℕ) → AreOctets xs → down_at carrier xs ≡ Err Truncated → Continues (down_at carrier) xs
unfolding down_at report_down_at
down_continues InData xs fits e = data_down_continues xs fits e
down_continues InAck xs fits e = made_continues (submit_report_at false) (λ r. SubmitReport r) xs (submit_report_continues false xs fits) e
down_continues InError xs fits e = made_continues (submit_report_at true) (λ r. SubmitReport r) xs (submit_report_continues true xs fits) e

up_continues : (carrier : Carrier) (xs : List ℕ) → AreOctets xs → up_at carrier xs ≡ Err Truncated → Continues (up_at carrier) xs
unfolding up_at data_up_at report_up_at
up_continues InData xs fits e = made_continues submit_at (λ s. Submit s) xs (submit_continues xs fits) e
up_continues InAck xs fits e = made_continues (deliver_report_at false) (λ r. DeliverReport r) xs (deliver_report_continues false xs fits) e
up_continues InError xs fits e = made_continues (deliver_report_at true) (λ r. DeliverReport r) xs (deliver_report_continues true xs fits) e

pub down_missing : (carrier : Carrier) (xs : List ℕ) → AreOctets xs → down_at carrier xs ≡ Err Truncated → (rest : List ℕ) × (tpdu : Down) × AreOctets rest × IsDown carrier (xs ++ rest) tpdu
down_missing carrier xs fits e =
    let g = down_continues carrier xs fits e in
    (g.0, g.1.1.0, g.1.0, down_takes carrier (xs ++ g.0) g.1.1.0 (joined_fits xs g.0 fits g.1.0) g.1.1.1)

pub up_missing : (carrier : Carrier) (xs : List ℕ) → AreOctets xs → up_at carrier xs ≡ Err Truncated → (rest : List ℕ) × (tpdu : Up) × AreOctets rest × IsUp carrier (xs ++ rest) tpdu
up_missing carrier xs fits e =
    let g = up_continues carrier xs fits e in
    (g.0, g.1.1.0, g.1.0, up_takes carrier (xs ++ g.0) g.1.1.0 (joined_fits xs g.0 fits g.1.0) g.1.1.1)
