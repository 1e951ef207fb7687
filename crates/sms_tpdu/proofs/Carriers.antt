-- TPDUs by carrier.
use Rattle.std.proofs.Common.{◌≡◌, ℕ, ◌%◌, ◌<◌, Bool, true, false, cond, eqb, List, [], ◌∷◌, get_or, Result, Ok, Err, refl, sym, ap, subst, ◌∙◌}
use Rattle.std.specs.Prelude.{IfOk}
use Rattle.sms_base.specs.Reading.{◌>>=◌, AreOctets}
use Rattle.sms_base.proofs.Steps.{bind_ok, ok_is}
use Rattle.sms_base.proofs.OctetLaws.{are_octets}
use Rattle.sms_tpdu.specs.declared.fault.TpduFault.{TpduFault}
use Rattle.sms_tpdu.specs.declared.carrier.Carrier.{Carrier}
use Rattle.sms_tpdu.specs.declared.carrier.Carrier.TheVariants.{InData, InAck, InError}
use Rattle.sms_tpdu.specs.declared.down.Down.{Down}
use Rattle.sms_tpdu.specs.declared.down.Down.TheVariants.{Deliver, StatusReport, SubmitReport}
use Rattle.sms_tpdu.specs.declared.up.Up.{Up}
use Rattle.sms_tpdu.specs.declared.up.Up.TheVariants.{Submit, DeliverReport}
use Rattle.sms_tpdu.specs.TpduGrammar.{IsDown, IsUp, IsStatusTail, IsReportData, IsWritableDown, IsWritableUp}
use Rattle.sms_tpdu.specs.declared.parameters.Parameters.{Parameters}
use Rattle.sms_tpdu.specs.TpduReading.{is_status_report, deliver_at, submit_at, submit_report_at, deliver_report_at, status_report_at, data_down_at, report_down_at, down_at, data_up_at, report_up_at, up_at}
use Rattle.sms_tpdu.proofs.Delivers.{deliver_takes, deliver_again}
use Rattle.sms_tpdu.proofs.Submits.{submit_takes, submit_again}
use Rattle.sms_tpdu.proofs.Reports.{submit_report_takes, submit_report_again, deliver_report_takes, deliver_report_again, status_report_takes, status_report_again}

-- ---- down

data_down_by : (b : Bool) (xs : List ℕ) (t : Down) → AreOctets xs → cond b (status_report_at xs >>= (λ r. Ok (StatusReport r))) (deliver_at xs >>= (λ d. Ok (Deliver d))) ≡ Ok t → IsDown InData xs t
data_down_by true xs t fits e =
    let a = bind_ok (status_report_at xs) _ t e in
    subst (λ (y : Down). IsDown InData xs y) (ok_is {E = TpduFault} (StatusReport a.0) t a.2) (status_report_takes xs a.0 fits a.1)
data_down_by false xs t fits e =
    let a = bind_ok (deliver_at xs) _ t e in
    subst (λ (y : Down). IsDown InData xs y) (ok_is {E = TpduFault} (Deliver a.0) t a.2) (deliver_takes xs a.0 fits a.1)

pub down_takes : (carrier : Carrier) (xs : List ℕ) (t : Down) → AreOctets xs → down_at carrier xs ≡ Ok t → IsDown carrier xs t
unfolding down_at data_down_at report_down_at
down_takes InData xs t fits e = data_down_by (is_status_report xs) xs t fits e
down_takes InAck xs t fits e =
    let a = bind_ok (submit_report_at false xs) _ t e in
    subst (λ (y : Down). IsDown InAck xs y) (ok_is {E = TpduFault} (SubmitReport a.0) t a.2) (submit_report_takes false xs a.0 fits a.1)
down_takes InError xs t fits e =
    let a = bind_ok (submit_report_at true xs) _ t e in
    subst (λ (y : Down). IsDown InError xs y) (ok_is {E = TpduFault} (SubmitReport a.0) t a.2) (submit_report_takes true xs a.0 fits a.1)

pub down_again : (carrier : Carrier) (xs : List ℕ) (t : Down) → IsDown carrier xs t → down_at carrier xs ≡ Ok t
unfolding down_at data_down_at report_down_at
down_again InData xs (Deliver d) (first, from, stamp, head, is_from, is_stamp, is_text, whole) =
    let kind : eqb (first % 4) 2 ≡ false = rw head.message_type refl in
    let is : is_status_report xs ≡ false = ap is_status_report whole ∙ kind in
    rw (is, deliver_again xs d (first, from, stamp, head, is_from, is_stamp, is_text, whole)) refl
down_again InData xs (StatusReport r) (first, to, stamp, discharge, tail, head, is_to, is_stamp, is_discharge, is_tail, whole) =
    let kind : eqb (first % 4) 2 ≡ true = rw head.message_type refl in
    let is : is_status_report xs ≡ true = ap is_status_report whole ∙ kind in
    rw (is, status_report_again xs r (first, to, stamp, discharge, tail, head, is_to, is_stamp, is_discharge, is_tail, whole)) refl
down_again InData xs (SubmitReport r) h = absurd h
down_again InAck xs (Deliver d) h = absurd h
down_again InAck xs (StatusReport r) h = absurd h
down_again InAck xs (SubmitReport r) h = rw (submit_report_again false xs r h) refl
down_again InError xs (Deliver d) h = absurd h
down_again InError xs (StatusReport r) h = absurd h
down_again InError xs (SubmitReport r) h = rw (submit_report_again true xs r h) refl

pub down_found : (carrier : Carrier) (xs : List ℕ) (r : Result Down TpduFault) → ((i : ℕ) → get_or xs i 0 < 256) → r ≡ down_at carrier xs → IfOk r (λ t. IsDown carrier xs t)
down_found carrier xs (Ok t) fits e = down_takes carrier xs t (are_octets xs fits) (sym e)
down_found carrier xs (Err f) fits e = tt

-- ---- up

pub up_takes : (carrier : Carrier) (xs : List ℕ) (t : Up) → AreOctets xs → up_at carrier xs ≡ Ok t → IsUp carrier xs t
unfolding up_at data_up_at report_up_at
up_takes InData xs t fits e =
    let a = bind_ok (submit_at xs) _ t e in
    subst (λ (y : Up). IsUp InData xs y) (ok_is {E = TpduFault} (Submit a.0) t a.2) (submit_takes xs a.0 fits a.1)
up_takes InAck xs t fits e =
    let a = bind_ok (deliver_report_at false xs) _ t e in
    subst (λ (y : Up). IsUp InAck xs y) (ok_is {E = TpduFault} (DeliverReport a.0) t a.2) (deliver_report_takes false xs a.0 fits a.1)
up_takes InError xs t fits e =
    let a = bind_ok (deliver_report_at true xs) _ t e in
    subst (λ (y : Up). IsUp InError xs y) (ok_is {E = TpduFault} (DeliverReport a.0) t a.2) (deliver_report_takes true xs a.0 fits a.1)

pub up_again : (carrier : Carrier) (xs : List ℕ) (t : Up) → IsUp carrier xs t → up_at carrier xs ≡ Ok t
unfolding up_at data_up_at report_up_at
up_again InData xs (Submit s) h = rw (submit_again xs s h) refl
up_again InData xs (DeliverReport r) h = absurd h
up_again InAck xs (Submit s) h = absurd h
up_again InAck xs (DeliverReport r) h = rw (deliver_report_again false xs r h) refl
up_again InError xs (Submit s) h = absurd h
up_again InError xs (DeliverReport r) h = rw (deliver_report_again true xs r h) refl

pub up_found : (carrier : Carrier) (xs : List ℕ) (r : Result Up TpduFault) → ((i : ℕ) → get_or xs i 0 < 256) → r ≡ up_at carrier xs → IfOk r (λ t. IsUp carrier xs t)
up_found carrier xs (Ok t) fits e = up_takes carrier xs t (are_octets xs fits) (sym e)
up_found carrier xs (Err f) fits e = tt

-- ---- what is read may be written

tail_data : (with_header : Bool) (xs : List ℕ) (p : Parameters) → IsStatusTail with_header xs p → IsReportData with_header p
tail_data with_header [] p h = rw h tt
tail_data with_header (indicator ∷ xs) p (unread, indicates, is_data, follows, whole) = is_data

down_writable : (carrier : Carrier) (xs : List ℕ) (t : Down) → IsDown carrier xs t → IsWritableDown t
down_writable InData xs (Deliver d) (first, from, stamp, head, is_from, is_stamp, is_text, whole) = (is_from.valid, is_text)
down_writable InData xs (StatusReport r) (first, to, stamp, discharge, tail, head, is_to, is_stamp, is_discharge, is_tail, whole) = (is_to.valid, tail_data r.user_data_header_indicator tail r.parameters is_tail)
down_writable InData xs (SubmitReport r) h = absurd h
down_writable InAck xs (Deliver d) h = absurd h
down_writable InAck xs (StatusReport r) h = absurd h
down_writable InAck xs (SubmitReport r) (first, indicator, stamp, unread, kind, has_cause, indicates, is_stamp, is_data, follows, whole) = is_data
down_writable InError xs (Deliver d) h = absurd h
down_writable InError xs (StatusReport r) h = absurd h
down_writable InError xs (SubmitReport r) (first, indicator, stamp, unread, kind, has_cause, indicates, is_stamp, is_data, follows, whole) = is_data

pub down_found_writable : (carrier : Carrier) (xs : List ℕ) (r : Result Down TpduFault) → ((i : ℕ) → get_or xs i 0 < 256) → r ≡ down_at carrier xs → IfOk r (λ t. IsWritableDown t)
down_found_writable carrier xs (Ok t) fits e = down_writable carrier xs t (down_takes carrier xs t (are_octets xs fits) (sym e))
down_found_writable carrier xs (Err f) fits e = tt

up_writable : (carrier : Carrier) (xs : List ℕ) (t : Up) → IsUp carrier xs t → IsWritableUp t
up_writable InData xs (Submit s) (first, to, period, head, is_to, is_period, is_text, whole) = (is_to.valid, is_text)
up_writable InData xs (DeliverReport r) h = absurd h
up_writable InAck xs (Submit s) h = absurd h
up_writable InAck xs (DeliverReport r) (first, indicator, unread, kind, has_cause, indicates, is_data, follows, whole) = is_data
up_writable InError xs (Submit s) h = absurd h
up_writable InError xs (DeliverReport r) (first, indicator, unread, kind, has_cause, indicates, is_data, follows, whole) = is_data

pub up_found_writable : (carrier : Carrier) (xs : List ℕ) (r : Result Up TpduFault) → ((i : ℕ) → get_or xs i 0 < 256) → r ≡ up_at carrier xs → IfOk r (λ t. IsWritableUp t)
up_found_writable carrier xs (Ok t) fits e = up_writable carrier xs t (up_takes carrier xs t (are_octets xs fits) (sym e))
up_found_writable carrier xs (Err f) fits e = tt
