-- A report that was cut: it is read as the same, or ends too early; a STATUS-REPORT may also lose its parameters.
use Rattle.std.proofs.Common.{◌≡◌, ℕ, Bool, true, false, cond, ltb, List, [], ◌∷◌, ◌++◌, Result, Ok, Err, refl, ap, subst, ◌∙◌, inl, inr}
use Rattle.std.specs.Prelude.{◌⊎◌}
use Rattle.sms_base.specs.Reading.{◌>>=◌, only_if, octet_in, end_in}
use Rattle.sms_base.proofs.Steps.{bind_ok, ok_is}
use Rattle.sms_base.proofs.Cuts.{CutsShort, cuts_octet, cuts_pure, cuts_bind}
use Rattle.sms_alphabet.specs.declared.scheme.Coding.{Coding}
use Rattle.sms_tpdu.specs.declared.fault.TpduFault.{TpduFault}
use Rattle.sms_tpdu.specs.declared.fault.TpduFault.TheVariants.{Truncated, TrailingOctets, UnsupportedType}
use Rattle.sms_tpdu.specs.declared.parameters.Parameters.{Parameters}
use Rattle.sms_tpdu.specs.declared.submit_report.SubmitReport.{SubmitReport}
use Rattle.sms_tpdu.specs.declared.deliver_report.DeliverReport.{DeliverReport}
use Rattle.sms_tpdu.specs.declared.status_report.StatusReport.{StatusReport}
use Rattle.sms_tpdu.specs.Bits.{bit}
use Rattle.sms_tpdu.specs.AddressReading.{address_in}
use Rattle.sms_tpdu.specs.TimeReading.{time_in}
use Rattle.sms_tpdu.specs.UserDataReading.{user_data_in}
use Rattle.sms_tpdu.specs.TpduGrammar.{report_coding, no_parameters, without_parameters}
use Rattle.sms_tpdu.specs.TpduReading.{optional_octet_in, optional_data_in, parameters_in, follows_in, submit_report_at, deliver_report_at, status_tail_in, status_report_at}
use Rattle.sms_tpdu.proofs.CutFields.{address_cut, time_cut, data_cut}

-- What is read of a list is, of its front, read as a value that is related to it, or the front ends too early.
abbrev CutsTo : {Z : Type 0} → (Z → Z → Type 0) → (List ℕ → Result Z TpduFault) → Type 0
CutsTo {Z} R read = (xs ys : List ℕ) (z : Z) → read (xs ++ ys) ≡ Ok z → ((y : Z) × (read xs ≡ Ok y) × R y z) ⊎ (read xs ≡ Err Truncated)

to_bind : {X Z : Type 0} (R : Z → Z → Type 0) (r : List ℕ → Result (X × List ℕ) TpduFault) (k : X × List ℕ → Result Z TpduFault)
    → CutsShort Truncated r → ((x : X) → CutsTo R (λ rest. k (x, rest))) → CutsTo R (λ xs. r xs >>= k)
to_bind {X} {Z} R r k hr hk xs ys z e =
    let a = bind_ok (r (xs ++ ys)) k z e in
    elim (hr xs ys a.0 a.1) [
      | inl p ↦
          let same : k (a.0.0, p.0 ++ ys) ≡ Ok z = ap (λ (l : List ℕ). k (a.0.0, l)) p.2 ∙ a.2 in
          let step : (r xs >>= k) ≡ k (a.0.0, p.0) = ap (λ (m : Result (X × List ℕ) TpduFault). m >>= k) p.1 in
          elim (hk a.0.0 p.0 ys z same) [
            | inl q ↦ inl (q.0, step ∙ q.1, q.2)
            | inr q ↦ inr (step ∙ q)
          ]
      | inr p ↦ inr (ap (λ (m : Result (X × List ℕ) TpduFault). m >>= k) p)
    ]

to_test : {Z : Type 0} (R : Z → Z → Type 0) (b : Bool) (bad : TpduFault) (r : List ℕ → Result Z TpduFault) → CutsTo R r → CutsTo R (λ xs. only_if b bad >>= (λ u. r xs))
to_test R true bad r h xs ys z e = h xs ys z e
to_test R false bad r h xs ys z e = absurd cc

-- ---- the announced fields

optional_octet_cut : (b : Bool) → CutsShort Truncated (optional_octet_in b)
unfolding optional_octet_in
optional_octet_cut false = cuts_pure Truncated _
optional_octet_cut true = cuts_bind Truncated (octet_in Truncated) _ (cuts_octet Truncated) (λ octet. cuts_pure Truncated _)

optional_data_cut : (b : Bool) (coding : Coding) (with_header : Bool) → CutsShort Truncated (optional_data_in b coding with_header)
unfolding optional_data_in
optional_data_cut false coding with_header = cuts_pure Truncated _
optional_data_cut true coding with_header = cuts_bind Truncated (user_data_in coding with_header) _ (data_cut coding with_header) (λ text. cuts_pure Truncated _)

parameters_cut : (indicator : ℕ) (with_header : Bool) → CutsShort Truncated (parameters_in indicator with_header)
unfolding parameters_in
parameters_cut indicator with_header =
    cuts_bind Truncated (optional_octet_in (bit indicator 1)) _ (optional_octet_cut (bit indicator 1)) (λ protocol.
    cuts_bind Truncated (optional_octet_in (bit indicator 2)) _ (optional_octet_cut (bit indicator 2)) (λ scheme.
    cuts_bind Truncated (optional_data_in (bit indicator 4) (report_coding scheme) with_header) _ (optional_data_cut (bit indicator 4) (report_coding scheme) with_header) (λ text. cuts_pure Truncated _)))

abbrev follows_by : Bool → List ℕ → Result (Unit {0}) TpduFault
follows_by b xs = cond b (end_in TrailingOctets xs) (Ok tt)

follows_front : (b : Bool) (xs ys : List ℕ) (u : Unit {0}) → follows_by b (xs ++ ys) ≡ Ok u → follows_by b xs ≡ Ok tt
follows_front true [] ys u e = refl
follows_front true (o ∷ xs) ys u e = absurd cc
follows_front false xs ys u e = refl

to_end : {Z : Type 0} (R : Z → Z → Type 0) (indicator : ℕ) (v : Z) → R v v → CutsTo R (λ xs. follows_in indicator xs >>= (λ u. Ok v))
unfolding follows_in
to_end {Z} R indicator v h xs ys z e =
    let a = bind_ok (follows_by (ltb indicator 8) (xs ++ ys)) (λ u. Ok v) z e in
    let here : follows_by (ltb indicator 8) xs ≡ Ok tt = follows_front (ltb indicator 8) xs ys a.0 a.1 in
    inl (v, ap (λ (m : Result (Unit {0}) TpduFault). m >>= (λ u. Ok v)) here, subst (λ (w : Z). R v w) (ok_is {E = TpduFault} v z a.2) h)

-- ---- the reports

abbrev Same : {Z : Type 0} → Z → Z → Type 0
Same y z = y ≡ z

same_to : {Z : Type 0} (read : List ℕ → Result Z TpduFault) → CutsTo Same read → (xs ys : List ℕ) (z : Z) → read (xs ++ ys) ≡ Ok z → (read xs ≡ Ok z) ⊎ (read xs ≡ Err Truncated)
same_to {Z} read h xs ys z e = elim (h xs ys z e) [
  | inl p ↦ inl (p.1 ∙ ap (λ (y : Z). Ok y) p.2)
  | inr p ↦ inr p
]

submit_report_to : (in_error : Bool) → CutsTo Same (submit_report_at in_error)
unfolding submit_report_at
submit_report_to in_error =
    to_bind Same (octet_in Truncated) _ (cuts_octet Truncated) (λ first. to_test Same _ UnsupportedType _
    (to_bind Same (optional_octet_in in_error) _ (optional_octet_cut in_error) (λ cause.
    to_bind Same (octet_in Truncated) _ (cuts_octet Truncated) (λ indicator.
    to_bind Same time_in _ time_cut (λ stamp.
    to_bind Same (parameters_in indicator false) _ (parameters_cut indicator false) (λ parameters.
    to_end Same indicator _ refl))))))

pub submit_report_cut : (in_error : Bool) (xs ys : List ℕ) (r : SubmitReport) → submit_report_at in_error (xs ++ ys) ≡ Ok r → (submit_report_at in_error xs ≡ Ok r) ⊎ (submit_report_at in_error xs ≡ Err Truncated)
submit_report_cut in_error xs ys r e = same_to (submit_report_at in_error) (submit_report_to in_error) xs ys r e

deliver_report_to : (in_error : Bool) → CutsTo Same (deliver_report_at in_error)
unfolding deliver_report_at
deliver_report_to in_error =
    to_bind Same (octet_in Truncated) _ (cuts_octet Truncated) (λ first. to_test Same _ UnsupportedType _
    (to_bind Same (optional_octet_in in_error) _ (optional_octet_cut in_error) (λ cause.
    to_bind Same (octet_in Truncated) _ (cuts_octet Truncated) (λ indicator.
    to_bind Same (parameters_in indicator false) _ (parameters_cut indicator false) (λ parameters.
    to_end Same indicator _ refl)))))

pub deliver_report_cut : (in_error : Bool) (xs ys : List ℕ) (r : DeliverReport) → deliver_report_at in_error (xs ++ ys) ≡ Ok r → (deliver_report_at in_error xs ≡ Ok r) ⊎ (deliver_report_at in_error xs ≡ Err Truncated)
deliver_report_cut in_error xs ys r e = same_to (deliver_report_at in_error) (deliver_report_to in_error) xs ys r e

-- ---- the parameters that a STATUS-REPORT may lose

abbrev Fewer : StatusReport → StatusReport → Type 0
Fewer y z = (y ≡ z) ⊎ (y ≡ without_parameters z)

abbrev FewerParameters : Parameters → Parameters → Type 0
FewerParameters y z = (y ≡ z) ⊎ (y ≡ no_parameters)

tail_to : (with_header : Bool) → CutsTo FewerParameters (status_tail_in with_header)
unfolding status_tail_in
tail_to with_header [] ys z e = inl (no_parameters, refl, inr refl)
tail_to with_header (indicator ∷ xs) ys z e =
    to_bind FewerParameters (parameters_in indicator with_header) (λ parameters. follows_in indicator parameters.1 >>= (λ u. Ok parameters.0)) (parameters_cut indicator with_header) (λ parameters. to_end FewerParameters indicator parameters (inl refl)) xs ys z e

tail_bind : (with_header : Bool) (make : Parameters → StatusReport) → ((p : Parameters) → make no_parameters ≡ without_parameters (make p)) → CutsTo Fewer (λ xs. status_tail_in with_header xs >>= (λ p. Ok (make p)))
tail_bind with_header make lost xs ys z e =
    let a = bind_ok (status_tail_in with_header (xs ++ ys)) (λ p. Ok (make p)) z e in
    let is : make a.0 ≡ z = ok_is {E = TpduFault} (make a.0) z a.2 in
    elim (tail_to with_header xs ys a.0 a.1) [
      | inl p ↦
          let step : (status_tail_in with_header xs >>= (λ p. Ok (make p))) ≡ Ok (make p.0) = ap (λ (m : Result Parameters TpduFault). m >>= (λ p. Ok (make p))) p.1 in
          elim p.2 [
            | inl q ↦ inl (make p.0, step, inl (ap make q ∙ is))
            | inr q ↦ inl (make p.0, step, inr (ap make q ∙ lost a.0 ∙ ap without_parameters is))
          ]
      | inr p ↦ inr (ap (λ (m : Result Parameters TpduFault). m >>= (λ p. Ok (make p))) p)
    ]

status_report_to : CutsTo Fewer status_report_at
unfolding status_report_at
status_report_to =
    to_bind Fewer (octet_in Truncated) _ (cuts_octet Truncated) (λ first. to_test Fewer _ UnsupportedType _
    (to_bind Fewer (octet_in Truncated) _ (cuts_octet Truncated) (λ reference.
    to_bind Fewer address_in _ address_cut (λ to.
    to_bind Fewer time_in _ time_cut (λ stamp.
    to_bind Fewer time_in _ time_cut (λ discharge.
    to_bind Fewer (octet_in Truncated) _ (cuts_octet Truncated) (λ status.
    tail_bind (bit first 64) (λ p. record { no_more_messages_to_send = bit first 4; status_report_qualifier = bit first 32; user_data_header_indicator = bit first 64; message_reference = reference; recipient_address = to; service_centre_time_stamp = stamp; discharge_time = discharge; status = status; parameters = p }) (λ p. refl))))))))

pub status_report_cut : (xs ys : List ℕ) (r : StatusReport) → status_report_at (xs ++ ys) ≡ Ok r → (status_report_at xs ≡ Ok r) ⊎ ((status_report_at xs ≡ Ok (without_parameters r)) ⊎ (status_report_at xs ≡ Err Truncated))
status_report_cut xs ys r e = elim (status_report_to xs ys r e) [
  | inl p ↦ elim p.2 [
    | inl q ↦ inl (p.1 ∙ ap (λ (y : StatusReport). Ok y) q)
    | inr q ↦ inr (inl (p.1 ∙ ap (λ (y : StatusReport). Ok y) q))
  ]
  | inr p ↦ inr (inr p)
]
