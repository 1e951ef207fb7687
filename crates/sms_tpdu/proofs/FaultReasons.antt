-- Why a TPDU is refused: octets are left over behind one, octets of one are missing, or it is the front of none.
use Rattle.std.proofs.Common.{◌≡◌, ℕ, ◌/◌, ◌%◌, Bool, true, false, cond, not, eqb, ltb, List, [], ◌∷◌, ◌++◌, Result, Ok, Err, refl, sym, ap, subst, ◌∙◌, inl, inr}
use Rattle.std.specs.Prelude.{◌⊎◌}
use Rattle.std.proofs.lemmas.List.{append-nil}
use Rattle.sms_base.specs.Reading.{◌>>=◌, octet_in, end_in, AreOctets}
use Rattle.sms_base.proofs.Steps.{bind_ok, ok_is}
use Rattle.sms_base.proofs.OctetLaws.{octets_before}
use Rattle.sms_alphabet.specs.DataCodingScheme.{coding_of}
use Rattle.sms_tpdu.specs.declared.fault.TpduFault.{TpduFault}
use Rattle.sms_tpdu.specs.declared.fault.TpduFault.TheVariants.{Truncated, TrailingOctets, UnsupportedType, UnsupportedValidity}
use Rattle.sms_tpdu.specs.declared.carrier.Carrier.{Carrier}
use Rattle.sms_tpdu.specs.declared.carrier.Carrier.TheVariants.{InData, InAck, InError}
use Rattle.sms_tpdu.specs.declared.down.Down.{Down}
use Rattle.sms_tpdu.specs.declared.down.Down.TheVariants.{Deliver, StatusReport, SubmitReport}
use Rattle.sms_tpdu.specs.declared.up.Up.{Up}
use Rattle.sms_tpdu.specs.declared.up.Up.TheVariants.{Submit, DeliverReport}
use Rattle.sms_tpdu.specs.Bits.{bit}
use Rattle.sms_tpdu.specs.AddressReading.{address_in}
use Rattle.sms_tpdu.specs.TimeReading.{time_in}
use Rattle.sms_tpdu.specs.UserDataReading.{user_data_in}
use Rattle.sms_tpdu.specs.TpduGrammar.{IsDown, IsUp}
use Rattle.sms_tpdu.specs.TpduReading.{deliver_at, validity_in, submit_rest_in, submit_at, optional_octet_in, parameters_in, follows_in, submit_report_at, deliver_report_at, status_tail_in, status_report_at, is_status_report, data_down_at, report_down_at, down_at, data_up_at, report_up_at, up_at}
use Rattle.sms_tpdu.proofs.Carriers.{down_takes, down_again, up_takes, up_again}
use Rattle.sms_tpdu.proofs.CutUnits.{deliver_cut, submit_cut}
use Rattle.sms_tpdu.proofs.CutReports.{submit_report_cut, deliver_report_cut, status_report_cut}
use Rattle.sms_tpdu.proofs.FaultSteps.{no_fault, fault_is, at_once, behind, cause_of, octet_field_is, Trails, trails_end, trails_bind, trails_test}
use Rattle.sms_tpdu.proofs.FaultFields.{address_field_is, time_field_is, data_field_is, validity_field_is, optional_octet_field_is, parameters_field_is}

-- ---- octets left over

type_isn't : UnsupportedType ≡ TrailingOctets → ⊥
type_isn't p = absurd cc

format_isn't : UnsupportedValidity ≡ TrailingOctets → ⊥
format_isn't p = absurd cc

deliver_trails : Trails deliver_at
unfolding deliver_at
deliver_trails =
    trails_bind (octet_in Truncated) _ octet_field_is (λ first. trails_test (eqb (first % 4) 0) UnsupportedType _ type_isn't
    (trails_bind address_in _ address_field_is (λ from.
    trails_bind (octet_in Truncated) _ octet_field_is (λ protocol.
    trails_bind (octet_in Truncated) _ octet_field_is (λ scheme.
    trails_bind time_in _ time_field_is (λ stamp.
    trails_bind (user_data_in (coding_of scheme) (bit first 64)) _ (data_field_is (coding_of scheme) (bit first 64)) (λ text.
    trails_end _)))))))

submit_rest_trails : (first : ℕ) → Trails (submit_rest_in first)
unfolding submit_rest_in
submit_rest_trails first =
    trails_bind (octet_in Truncated) _ octet_field_is (λ reference.
    trails_bind address_in _ address_field_is (λ to.
    trails_bind (octet_in Truncated) _ octet_field_is (λ protocol.
    trails_bind (octet_in Truncated) _ octet_field_is (λ scheme.
    trails_bind (validity_in (first / 8 % 4)) _ (validity_field_is (first / 8 % 4)) (λ period.
    trails_bind (user_data_in (coding_of scheme) (bit first 64)) _ (data_field_is (coding_of scheme) (bit first 64)) (λ text.
    trails_end _))))))

submit_trails : Trails submit_at
unfolding submit_at
submit_trails =
    trails_bind (octet_in Truncated) _ octet_field_is (λ first. trails_test (eqb (first % 4) 1) UnsupportedType _ type_isn't
    (trails_test (not (eqb (first / 8 % 4) 1)) UnsupportedValidity _ format_isn't (submit_rest_trails first)))

follows_trails : {Z : Type 0} (indicator : ℕ) (z : Z) → Trails (λ xs. follows_in indicator xs >>= (λ u. Ok z))
unfolding follows_in
follows_trails {Z} indicator z = by (ltb indicator 8)
  where
    by : (b : Bool) → Trails (λ xs. cond b (end_in TrailingOctets xs) (Ok tt) >>= (λ u. Ok z))
    by true xs fits e = trails_end z xs fits e
    by false xs fits e = absurd (no_fault {X = Z} z TrailingOctets e)

submit_report_trails : (in_error : Bool) → Trails (submit_report_at in_error)
unfolding submit_report_at
submit_report_trails in_error =
    trails_bind (octet_in Truncated) _ octet_field_is (λ first. trails_test (eqb (first % 4) 1) UnsupportedType _ type_isn't
    (trails_bind (optional_octet_in in_error) _ (optional_octet_field_is in_error) (λ cause.
    trails_bind (octet_in Truncated) _ octet_field_is (λ indicator.
    trails_bind time_in _ time_field_is (λ stamp.
    trails_bind (parameters_in indicator false) _ (parameters_field_is indicator false) (λ parameters.
    follows_trails indicator _))))))

deliver_report_trails : (in_error : Bool) → Trails (deliver_report_at in_error)
unfolding deliver_report_at
deliver_report_trails in_error =
    trails_bind (octet_in Truncated) _ octet_field_is (λ first. trails_test (eqb (first % 4) 0) UnsupportedType _ type_isn't
    (trails_bind (optional_octet_in in_error) _ (optional_octet_field_is in_error) (λ cause.
    trails_bind (octet_in Truncated) _ octet_field_is (λ indicator.
    trails_bind (parameters_in indicator false) _ (parameters_field_is indicator false) (λ parameters.
    follows_trails indicator _)))))

announced_trails : (indicator : ℕ) (with_header : Bool) → Trails (λ xs. parameters_in indicator with_header xs >>= (λ parameters. follows_in indicator parameters.1 >>= (λ done. Ok parameters.0)))
announced_trails indicator with_header = trails_bind (parameters_in indicator with_header) _ (parameters_field_is indicator with_header) (λ parameters. follows_trails indicator parameters)

tail_trails : (with_header : Bool) → Trails (status_tail_in with_header)
unfolding status_tail_in
tail_trails with_header [] fits e = absurd cc
tail_trails with_header (indicator ∷ xs) fits e =
    let t = announced_trails indicator with_header xs fits.1 e in
    (indicator ∷ t.0, t.1, t.2, t.3, ap (λ (l : List ℕ). indicator ∷ l) t.4, t.5)

-- a reading of which a value is made
pub made_trails : {Y Z : Type 0} (read : List ℕ → Result Y TpduFault) (make : Y → Z) → Trails read → Trails (λ xs. read xs >>= (λ y. Ok (make y)))
made_trails {Y} {Z} read make h xs fits e = elim (cause_of (read xs) (λ y. Ok (make y)) TrailingOctets e) [
  | at_once p ↦
      let t = h xs fits p in
      (t.0, t.1, t.2, make t.3, t.4, ap (λ (m : Result Y TpduFault). m >>= (λ y. Ok (make y))) t.5)
  | behind y p q ↦ absurd (no_fault {X = Z} (make y) TrailingOctets q)
]

status_report_trails : Trails status_report_at
unfolding status_report_at
status_report_trails =
    trails_bind (octet_in Truncated) _ octet_field_is (λ first. trails_test (eqb (first % 4) 2) UnsupportedType _ type_isn't
    (trails_bind (octet_in Truncated) _ octet_field_is (λ reference.
    trails_bind address_in _ address_field_is (λ to.
    trails_bind time_in _ time_field_is (λ stamp.
    trails_bind time_in _ time_field_is (λ discharge.
    trails_bind (octet_in Truncated) _ octet_field_is (λ status.
    made_trails (status_tail_in (bit first 64)) _ (tail_trails (bit first 64)))))))))

empty_untrailed : (deliver_at [] >>= (λ d. Ok (Deliver d))) ≡ Err TrailingOctets → ⊥
unfolding deliver_at
empty_untrailed e = absurd cc

empty_short : (deliver_at [] >>= (λ d. Ok (Deliver d))) ≡ Err Truncated
unfolding deliver_at
empty_short = refl

abbrev status_made : List ℕ → Result Down TpduFault
status_made xs = status_report_at xs >>= (λ r. Ok (StatusReport r))

abbrev deliver_made : List ℕ → Result Down TpduFault
deliver_made xs = deliver_at xs >>= (λ d. Ok (Deliver d))

empty_status : (z : Down) → status_made [] ≡ Ok z → ⊥
unfolding status_report_at
empty_status z e = absurd cc

-- the kind of a front is that of the whole
status_front : (o : ℕ) (xs front : List ℕ) (octet : ℕ) (rest : List ℕ) (z : Down) → o ∷ xs ≡ front ++ octet ∷ rest → status_made front ≡ Ok z → eqb (o % 4) 2 ≡ true
    → cond (is_status_report front) (status_made front) (deliver_made front) ≡ Ok z
status_front o xs [] octet rest z w e t = absurd (empty_status z e)
status_front o xs (f ∷ front) octet rest z w e t =
    let same : o ≡ f = cc in
    let kind : eqb (f % 4) 2 ≡ true = ap (λ (n : ℕ). eqb (n % 4) 2) (sym same) ∙ t in
    ap (λ (b : Bool). cond b (status_made (f ∷ front)) (deliver_made (f ∷ front))) kind ∙ e

deliver_front : (o : ℕ) (xs front : List ℕ) (octet : ℕ) (rest : List ℕ) (z : Down) → o ∷ xs ≡ front ++ octet ∷ rest → deliver_made front ≡ Ok z → eqb (o % 4) 2 ≡ false
    → cond (is_status_report front) (status_made front) (deliver_made front) ≡ Ok z
deliver_front o xs [] octet rest z w e t = e
deliver_front o xs (f ∷ front) octet rest z w e t =
    let same : o ≡ f = cc in
    let kind : eqb (f % 4) 2 ≡ false = ap (λ (n : ℕ). eqb (n % 4) 2) (sym same) ∙ t in
    ap (λ (b : Bool). cond b (status_made (f ∷ front)) (deliver_made (f ∷ front))) kind ∙ e

data_down_trails : Trails data_down_at
unfolding data_down_at
data_down_trails [] fits e = absurd (empty_untrailed e)
data_down_trails (o ∷ xs) fits e = by (eqb (o % 4) 2) refl e
  where
    by : (b : Bool) → eqb (o % 4) 2 ≡ b → cond b (status_report_at (o ∷ xs) >>= (λ r. Ok (StatusReport r))) (deliver_at (o ∷ xs) >>= (λ d. Ok (Deliver d))) ≡ Err TrailingOctets
        → (front : List ℕ) × (octet : ℕ) × (rest : List ℕ) × (z : Down) × (o ∷ xs ≡ front ++ octet ∷ rest) × (cond (is_status_report front) (status_report_at front >>= (λ r. Ok (StatusReport r))) (deliver_at front >>= (λ d. Ok (Deliver d))) ≡ Ok z)
    by true t e =
        let w = made_trails status_report_at (λ r. StatusReport r) status_report_trails (o ∷ xs) fits e in
        (w.0, w.1, w.2, w.3, w.4, status_front o xs w.0 w.1 w.2 w.3 w.4 w.5 t)
    by false t e =
        let w = made_trails deliver_at (λ d. Deliver d) deliver_trails (o ∷ xs) fits e in
        (w.0, w.1, w.2, w.3, w.4, deliver_front o xs w.0 w.1 w.2 w.3 w.4 w.5 t)

down_trails : (carrier : Carrier) → Trails (down_at carrier)
unfolding down_at report_down_at
down_trails InData xs fits e = data_down_trails xs fits e
down_trails InAck xs fits e = made_trails (submit_report_at false) (λ r. SubmitReport r) (submit_report_trails false) xs fits e
down_trails InError xs fits e = made_trails (submit_report_at true) (λ r. SubmitReport r) (submit_report_trails true) xs fits e

up_trails : (carrier : Carrier) → Trails (up_at carrier)
unfolding up_at data_up_at report_up_at
up_trails InData xs fits e = made_trails submit_at (λ s. Submit s) submit_trails xs fits e
up_trails InAck xs fits e = made_trails (deliver_report_at false) (λ r. DeliverReport r) (deliver_report_trails false) xs fits e
up_trails InError xs fits e = made_trails (deliver_report_at true) (λ r. DeliverReport r) (deliver_report_trails true) xs fits e

pub down_left_over : (carrier : Carrier) (xs : List ℕ) → AreOctets xs → down_at carrier xs ≡ Err TrailingOctets → (front : List ℕ) × (octet : ℕ) × (rest : List ℕ) × (tpdu : Down) × (xs ≡ front ++ octet ∷ rest) × IsDown carrier front tpdu
down_left_over carrier xs fits e =
    let t = down_trails carrier xs fits e in
    (t.0, t.1, t.2, t.3, t.4, down_takes carrier t.0 t.3 (octets_before t.0 (t.1 ∷ t.2) (subst AreOctets t.4 fits)) t.5)

pub up_left_over : (carrier : Carrier) (xs : List ℕ) → AreOctets xs → up_at carrier xs ≡ Err TrailingOctets → (front : List ℕ) × (octet : ℕ) × (rest : List ℕ) × (tpdu : Up) × (xs ≡ front ++ octet ∷ rest) × IsUp carrier front tpdu
up_left_over carrier xs fits e =
    let t = up_trails carrier xs fits e in
    (t.0, t.1, t.2, t.3, t.4, up_takes carrier t.0 t.3 (octets_before t.0 (t.1 ∷ t.2) (subst AreOctets t.4 fits)) t.5)

-- ---- no continuation

-- a front of what is read is read, or ends too early
abbrev OrShort : {Z : Type 0} → (List ℕ → Result Z TpduFault) → Type 0
OrShort {Z} read = (xs ys : List ℕ) (z : Z) → read (xs ++ ys) ≡ Ok z → ((w : Z) × (read xs ≡ Ok w)) ⊎ (read xs ≡ Err Truncated)

made_short : {Y Z : Type 0} (read : List ℕ → Result Y TpduFault) (make : Y → Z) → OrShort read → OrShort (λ xs. read xs >>= (λ y. Ok (make y)))
made_short {Y} {Z} read make h xs ys z e =
    let a = bind_ok (read (xs ++ ys)) (λ y. Ok (make y)) z e in
    elim (h xs ys a.0 a.1) [
      | inl p ↦ inl (make p.0, ap (λ (m : Result Y TpduFault). m >>= (λ y. Ok (make y))) p.1)
      | inr p ↦ inr (ap (λ (m : Result Y TpduFault). m >>= (λ y. Ok (make y))) p)
    ]

deliver_short : OrShort deliver_at
deliver_short xs ys z e = elim (deliver_cut xs ys z e) [
  | inl p ↦ inl (z, ap deliver_at (sym (append-nil xs) ∙ ap (λ (l : List ℕ). xs ++ l) (sym p)) ∙ e)
  | inr p ↦ inr p
]

submit_short : OrShort submit_at
submit_short xs ys z e = elim (submit_cut xs ys z e) [
  | inl p ↦ inl (z, ap submit_at (sym (append-nil xs) ∙ ap (λ (l : List ℕ). xs ++ l) (sym p)) ∙ e)
  | inr p ↦ inr p
]

submit_report_short : (b : Bool) → OrShort (submit_report_at b)
submit_report_short b xs ys z e = elim (submit_report_cut b xs ys z e) [ inl p ↦ inl (z, p) | inr p ↦ inr p ]

deliver_report_short : (b : Bool) → OrShort (deliver_report_at b)
deliver_report_short b xs ys z e = elim (deliver_report_cut b xs ys z e) [ inl p ↦ inl (z, p) | inr p ↦ inr p ]

status_report_short : OrShort status_report_at
status_report_short xs ys z e = elim (status_report_cut xs ys z e) [
  | inl p ↦ inl (z, p)
  | inr q ↦ elim q [ inl p ↦ inl (_, p) | inr p ↦ inr p ]
]

data_down_short : OrShort data_down_at
unfolding data_down_at
data_down_short [] ys z e = inr empty_short
data_down_short (o ∷ xs) ys z e = by (eqb (o % 4) 2) e
  where
    by : (b : Bool) → cond b (status_report_at (o ∷ (xs ++ ys)) >>= (λ r. Ok (StatusReport r))) (deliver_at (o ∷ (xs ++ ys)) >>= (λ d. Ok (Deliver d))) ≡ Ok z
        → ((w : Down) × (cond b (status_report_at (o ∷ xs) >>= (λ r. Ok (StatusReport r))) (deliver_at (o ∷ xs) >>= (λ d. Ok (Deliver d))) ≡ Ok w)) ⊎ (cond b (status_report_at (o ∷ xs) >>= (λ r. Ok (StatusReport r))) (deliver_at (o ∷ xs) >>= (λ d. Ok (Deliver d))) ≡ Err Truncated)
    by true e = made_short status_report_at (λ r. StatusReport r) status_report_short (o ∷ xs) ys z e
    by false e = made_short deliver_at (λ d. Deliver d) deliver_short (o ∷ xs) ys z e

down_short : (carrier : Carrier) → OrShort (down_at carrier)
unfolding down_at report_down_at
down_short InData xs ys z e = data_down_short xs ys z e
down_short InAck xs ys z e = made_short (submit_report_at false) (λ r. SubmitReport r) (submit_report_short false) xs ys z e
down_short InError xs ys z e = made_short (submit_report_at true) (λ r. SubmitReport r) (submit_report_short true) xs ys z e

up_short : (carrier : Carrier) → OrShort (up_at carrier)
unfolding up_at data_up_at report_up_at
up_short InData xs ys z e = made_short submit_at (λ s. Submit s) submit_short xs ys z e
up_short InAck xs ys z e = made_short (deliver_report_at false) (λ r. DeliverReport r) (deliver_report_short false) xs ys z e
up_short InError xs ys z e = made_short (deliver_report_at true) (λ r. DeliverReport r) (deliver_report_short true) xs ys z e

nothing_more : {Z : Type 0} (read : List ℕ → Result Z TpduFault) → OrShort read → (xs ys : List ℕ) (z : Z) (fault : TpduFault) → read xs ≡ Err fault → (fault ≡ Truncated → ⊥) → read (xs ++ ys) ≡ Ok z → ⊥
nothing_more {Z} read h xs ys z fault e other p = elim (h xs ys z p) [
  | inl w ↦ no_fault {X = Z} w.0 fault (sym w.1 ∙ e)
  | inr q ↦ other (fault_is {X = Z} fault Truncated (sym e ∙ q))
]

pub down_no_more : (carrier : Carrier) (xs ys : List ℕ) (tpdu : Down) (fault : TpduFault) → down_at carrier xs ≡ Err fault → (fault ≡ Truncated → ⊥) → IsDown carrier (xs ++ ys) tpdu → ⊥
down_no_more carrier xs ys tpdu fault e other is = nothing_more (down_at carrier) (down_short carrier) xs ys tpdu fault e other (down_again carrier (xs ++ ys) tpdu is)

pub up_no_more : (carrier : Carrier) (xs ys : List ℕ) (tpdu : Up) (fault : TpduFault) → up_at carrier xs ≡ Err fault → (fault ≡ Truncated → ⊥) → IsUp carrier (xs ++ ys) tpdu → ⊥
up_no_more carrier xs ys tpdu fault e other is = nothing_more (up_at carrier) (up_short carrier) xs ys tpdu fault e other (up_again carrier (xs ++ ys) tpdu is)

-- ---- one value a list

pub one_down_value : (carrier : Carrier) (xs : List ℕ) (one other : Down) → IsDown carrier xs one → IsDown carrier xs other → one ≡ other
one_down_value carrier xs one other h k = ok_is {E = TpduFault} one other (sym (down_again carrier xs one h) ∙ down_again carrier xs other k)

pub one_up_value : (carrier : Carrier) (xs : List ℕ) (one other : Up) → IsUp carrier xs one → IsUp carrier xs other → one ≡ other
one_up_value carrier xs one other h k = ok_is {E = TpduFault} one other (sym (up_again carrier xs one h) ∙ up_again carrier xs other k)
