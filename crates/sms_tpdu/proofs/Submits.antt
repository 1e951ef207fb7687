-- A SUBMIT as a whole.
use Rattle.std.proofs.Common.{◌≡◌, ℕ, zero, suc, ◌/◌, ◌%◌, ◌<◌, true, not, eqb, List, [], ◌∷◌, ◌++◌, Ok, refl, sym, ap, subst, ◌∙◌, arith}
use Rattle.std.proofs.lemmas.Bool.{eqb-true, eqb-false, eq-eqb, not-true}
use Rattle.std.proofs.lemmas.List.{append-nil}
use Rattle.sms_base.specs.Reading.{only_if, octet_in, end_in, AreOctets}
use Rattle.sms_base.proofs.Steps.{bind_ok, passes, ok_is, octet_takes, end_takes}
use Rattle.sms_alphabet.specs.DataCodingScheme.{coding_of}
use Rattle.sms_tpdu.specs.declared.fault.TpduFault.{TpduFault}
use Rattle.sms_tpdu.specs.declared.fault.TpduFault.TheVariants.{Truncated, TrailingOctets, UnsupportedType, UnsupportedValidity}
use Rattle.sms_tpdu.specs.declared.validity_period.ValidityPeriod.{ValidityPeriod}
use Rattle.sms_tpdu.specs.declared.validity_period.ValidityPeriod.TheVariants.{NotPresent, Relative, Absolute}
use Rattle.sms_tpdu.specs.declared.submit.Submit.{Submit}
use Rattle.sms_tpdu.specs.Bits.{bit}
use Rattle.sms_tpdu.specs.AddressReading.{address_in}
use Rattle.sms_tpdu.specs.TimeReading.{time_in}
use Rattle.sms_tpdu.specs.UserDataReading.{user_data_in}
use Rattle.sms_tpdu.specs.UserDataGrammar.{user_data_field}
use Rattle.sms_tpdu.specs.TpduReading.{submit_at, submit_rest_in, validity_in, relative_in, absolute_in}
use Rattle.sms_tpdu.specs.TpduGrammar.{validity_format, IsValidityField, IsSubmitHead, IsSubmitData, submit_fields, IsSubmit}
use Rattle.sms_tpdu.specs.AddressGrammar.{IsAddressField}
use Rattle.sms_tpdu.proofs.Addresses.{rest_fits, address_takes, address_again}
use Rattle.sms_tpdu.proofs.Times.{time_takes, time_again}
use Rattle.sms_tpdu.proofs.Texts.{data_takes, data_again}

-- ---- the validity period

pub record TakesValidity (format : ℕ) (xs : List ℕ) (v : ValidityPeriod) (rest : List ℕ) : Type 0 where
  pub text : List ℕ
  pub parts : xs ≡ text ++ rest
  pub is : IsValidityField text v
  pub format_is : format ≡ validity_format v
  pub rest_fits : AreOctets rest

relative_takes : (xs : List ℕ) (x : ValidityPeriod × List ℕ) → AreOctets xs → relative_in xs ≡ Ok x → TakesValidity 2 xs x.0 x.1
unfolding relative_in
relative_takes xs x fits e =
    let a = bind_ok (octet_in Truncated xs) _ x e in
    let p = octet_takes Truncated xs a.0 a.1 in
    subst (λ (y : ValidityPeriod × List ℕ). TakesValidity 2 xs y.0 y.1) (ok_is {E = TpduFault} (Relative a.0.0, a.0.1) x a.2)
    (record { text = a.0.0 ∷ []; parts = p; is = refl; format_is = refl; rest_fits = (rest_fits a.0.0 a.0.1 xs p fits).1 })

absolute_takes : (xs : List ℕ) (x : ValidityPeriod × List ℕ) → AreOctets xs → absolute_in xs ≡ Ok x → TakesValidity 3 xs x.0 x.1
unfolding absolute_in
absolute_takes xs x fits e =
    let a = bind_ok (time_in xs) _ x e in
    let t = time_takes xs a.0 fits a.1 in
    subst (λ (y : ValidityPeriod × List ℕ). TakesValidity 3 xs y.0 y.1) (ok_is {E = TpduFault} (Absolute a.0.0, a.0.1) x a.2)
    (record { text = t.text; parts = t.parts; is = t.is; format_is = refl; rest_fits = t.rest_fits })

validity_takes : (format : ℕ) (xs : List ℕ) (x : ValidityPeriod × List ℕ) → format < 4 → (format ≡ 1 → ⊥) → AreOctets xs → validity_in format xs ≡ Ok x → TakesValidity format xs x.0 x.1
unfolding validity_in
validity_takes zero xs x lt ne fits e =
    subst (λ (y : ValidityPeriod × List ℕ). TakesValidity 0 xs y.0 y.1) (ok_is {E = TpduFault} (NotPresent, xs) x e)
    (record { text = []; parts = refl; is = refl; format_is = refl; rest_fits = fits })
validity_takes (suc zero) xs x lt ne fits e = absurd (ne refl)
validity_takes (suc (suc zero)) xs x lt ne fits e = relative_takes xs x fits e
validity_takes (suc (suc (suc zero))) xs x lt ne fits e = absolute_takes xs x fits e
validity_takes (suc (suc (suc (suc n)))) xs x lt ne fits e = absurd (omega arith)

validity_again : (text : List ℕ) (v : ValidityPeriod) (rest : List ℕ) → IsValidityField text v → validity_in (validity_format v) (text ++ rest) ≡ Ok (v, rest)
unfolding validity_in relative_in absolute_in
validity_again text NotPresent rest h = rw h refl
validity_again text (Relative period) rest h = rw h refl
validity_again text (Absolute moment) rest h = rw (time_again text moment rest h) refl

format_passes : (v : ValidityPeriod) → not (eqb (validity_format v) 1) ≡ true
format_passes NotPresent = refl
format_passes (Relative period) = refl
format_passes (Absolute moment) = refl

below_four : (n : ℕ) → n % 4 < 4
below_four n = omega arith

-- ---- the whole

pub record TakesRest (first : ℕ) (xs : List ℕ) (s : Submit) : Type 0 where
  pub to : List ℕ
  pub period : List ℕ
  pub bits : (bit first 4 ≡ s.reject_duplicates) × (bit first 32 ≡ s.status_report_request) × (bit first 64 ≡ s.user_data_header_indicator) × (bit first 128 ≡ s.reply_path)
  pub format : first / 8 % 4 ≡ validity_format s.validity_period
  pub is_to : IsAddressField to s.destination_address
  pub is_period : IsValidityField period s.validity_period
  pub is_text : IsSubmitData s
  pub whole : first ∷ xs ≡ submit_fields first to period s

rest_takes : (first : ℕ) (xs : List ℕ) (s : Submit) → (first / 8 % 4 ≡ 1 → ⊥) → AreOctets xs → submit_rest_in first xs ≡ Ok s → TakesRest first xs s
unfolding submit_rest_in
rest_takes first xs s ne fits e =
    let r = bind_ok (octet_in Truncated xs) _ s e in
    let c = bind_ok (address_in r.0.1) _ s r.2 in
    let f = bind_ok (octet_in Truncated c.0.1) _ s c.2 in
    let g = bind_ok (octet_in Truncated f.0.1) _ s f.2 in
    let h = bind_ok (validity_in (first / 8 % 4) g.0.1) _ s g.2 in
    let j = bind_ok (user_data_in (coding_of g.0.0) (bit first 64) h.0.1) _ s h.2 in
    let k = bind_ok (end_in TrailingOctets j.0.1) _ s j.2 in
    let pr = octet_takes Truncated xs r.0 r.1 in
    let fr = rest_fits r.0.0 r.0.1 xs pr fits in
    let to = address_takes r.0.1 c.0 fr.1 c.1 in
    let pf = octet_takes Truncated c.0.1 f.0 f.1 in
    let ff = rest_fits f.0.0 f.0.1 c.0.1 pf to.rest_fits in
    let pg = octet_takes Truncated f.0.1 g.0 g.1 in
    let fg = rest_fits g.0.0 g.0.1 f.0.1 pg ff.1 in
    let period = validity_takes (first / 8 % 4) g.0.1 h.0 (below_four (first / 8)) ne fg.1 h.1 in
    let text = data_takes (coding_of g.0.0) (bit first 64) h.0.1 j.0 period.rest_fits j.1 in
    let pk = end_takes TrailingOctets j.0.1 k.0 k.1 in
    let made : Submit = record { reject_duplicates = bit first 4; status_report_request = bit first 32; user_data_header_indicator = bit first 64; reply_path = bit first 128; message_reference = r.0.0; destination_address = c.0.0; protocol_identifier = f.0.0; data_coding_scheme = g.0.0; validity_period = h.0.0; user_data = j.0.0 } in
    let last : h.0.1 ≡ user_data_field j.0.0 = text.parts ∙ ap (λ (l : List ℕ). user_data_field j.0.0 ++ l) pk ∙ append-nil (user_data_field j.0.0) in
    let whole : first ∷ xs ≡ submit_fields first to.text period.text made =
    ap (λ (l : List ℕ). first ∷ l) (pr ∙ ap (λ (l : List ℕ). r.0.0 ∷ l) (to.parts ∙ ap (λ (l : List ℕ). to.text ++ l) (pf ∙ ap (λ (l : List ℕ). f.0.0 ∷ l) (pg ∙ ap (λ (l : List ℕ). g.0.0 ∷ l) (period.parts ∙ ap (λ (l : List ℕ). period.text ++ l) last))))) in
    subst (λ (y : Submit). TakesRest first xs y) (ok_is {E = TpduFault} made s k.2)
    (record { to = to.text; period = period.text; bits = (refl, refl, refl, refl); format = period.format_is; is_to = to.is; is_period = period.is; is_text = text.is; whole = whole })

pub submit_takes : (xs : List ℕ) (s : Submit) → AreOctets xs → submit_at xs ≡ Ok s → IsSubmit xs s
unfolding submit_at
submit_takes xs s fits e =
    let a = bind_ok (octet_in Truncated xs) _ s e in
    let first = a.0.0 in
    let b = bind_ok (only_if (eqb (first % 4) 1) UnsupportedType) _ s a.2 in
    let v = bind_ok (only_if (not (eqb (first / 8 % 4) 1)) UnsupportedValidity) _ s b.2 in
    let pa = octet_takes Truncated xs a.0 a.1 in
    let fa = rest_fits first a.0.1 xs pa fits in
    let ne : first / 8 % 4 ≡ 1 → ⊥ = eqb-false (first / 8 % 4) 1 (not-true _ (passes _ UnsupportedValidity v.0 v.1)) in
    let t = rest_takes first a.0.1 s ne fa.1 v.2 in
    let head : IsSubmitHead first s = record { message_type = eqb-true (first % 4) 1 (passes _ UnsupportedType b.0 b.1); reject_duplicates = t.bits.0; validity = t.format; status_report = t.bits.1; header = t.bits.2; reply_path = t.bits.3 } in
    (first, t.to, t.period, head, t.is_to, t.is_period, t.is_text, pa ∙ t.whole)

rest_again : (first : ℕ) (to period : List ℕ) (s : Submit) → IsSubmitHead first s → IsAddressField to s.destination_address → IsValidityField period s.validity_period → IsSubmitData s
    → submit_rest_in first (s.message_reference ∷ (to ++ (s.protocol_identifier ∷ s.data_coding_scheme ∷ (period ++ user_data_field s.user_data)))) ≡ Ok s
unfolding submit_rest_in
rest_again first to period s head is_to is_period is_text =
    let data_is : user_data_in (coding_of s.data_coding_scheme) s.user_data_header_indicator (user_data_field s.user_data) ≡ Ok (s.user_data, []) =
    ap (user_data_in (coding_of s.data_coding_scheme) s.user_data_header_indicator) (sym (append-nil (user_data_field s.user_data))) ∙ data_again (coding_of s.data_coding_scheme) s.user_data_header_indicator s.user_data [] is_text in
    rw (address_again to s.destination_address (s.protocol_identifier ∷ s.data_coding_scheme ∷ (period ++ user_data_field s.user_data)) is_to, head.validity, validity_again period s.validity_period (user_data_field s.user_data) is_period, head.header, data_is, head.reject_duplicates, head.status_report, head.reply_path) refl

pub submit_again : (xs : List ℕ) (s : Submit) → IsSubmit xs s → submit_at xs ≡ Ok s
unfolding submit_at
submit_again xs s (first, to, period, head, is_to, is_period, is_text, whole) =
    let kind : eqb (first % 4) 1 ≡ true = eq-eqb (first % 4) 1 head.message_type in
    let format : not (eqb (first / 8 % 4) 1) ≡ true = ap (λ (n : ℕ). not (eqb n 1)) head.validity ∙ format_passes s.validity_period in
    rw (whole, kind, format) (rest_again first to period s head is_to is_period is_text)
