-- A SUBMIT has at most 164 octets, so that RP-DATA which brings one fits CP-DATA.
use Rattle.std.proofs.Common.{◌≡◌, ℕ, ◌<◌, ◌≤◌, Bool, true, false, List, ◌∷◌, ◌++◌, length, refl, ap, subst, arith}
use Rattle.std.proofs.lemmas.List.{length-append}
use Rattle.sms_alphabet.specs.DataCodingScheme.{coding_of}
use Rattle.sms_base.specs.Address.{IsAddress}
use Rattle.sms_base.specs.AddressKind.{is_name}
use Rattle.sms_base.specs.declared.address.Address.{Address}
use Rattle.sms_relay.specs.RelayGrammar.{IsUp as IsUnit}
use Rattle.sms_relay.specs.declared.frame.Rp.{Rp}
use Rattle.sms_relay.specs.declared.frame.Rp.TheVariants.{DataUnit}
use Rattle.sms_tpdu.specs.AddressGrammar.{IsAddressField, IsSpelledAddress, address_field, address_value, type_of_address}
use Rattle.sms_tpdu.specs.TpduGrammar.{IsSubmit, IsUp, IsValidityField}
use Rattle.sms_tpdu.specs.declared.carrier.Carrier.TheVariants.{InData}
use Rattle.sms_tpdu.specs.declared.up.Up.{Up}
use Rattle.sms_tpdu.specs.declared.up.Up.TheVariants.{Submit, DeliverReport}
use Rattle.sms_tpdu.specs.UserDataGrammar.{user_data_field}
use Rattle.sms_tpdu.specs.declared.submit.Submit.{Submit as SubmitOf}
use Rattle.sms_tpdu.specs.declared.validity_period.ValidityPeriod.{ValidityPeriod}
use Rattle.sms_tpdu.specs.declared.validity_period.ValidityPeriod.TheVariants.{NotPresent, Relative, Absolute}
use Rattle.sms_tpdu.proofs.NameValues.{field_short}
use Rattle.sms_tpdu.proofs.Times.{stamp_len}
use Rattle.sms_tpdu.proofs.Lengths.{few_octets}

spelled_short : (b : Bool) (text : List ℕ) (a : Address) → is_name a.ton ≡ b → IsAddress a → IsSpelledAddress b text a → length text ≤ 12
spelled_short false text a e valid is =
    let same : address_field a ≡ length a.digits ∷ type_of_address a ∷ address_value false a.digits = rw e refl in
    omega (arith, ap length is, ap length same, field_short a valid)
spelled_short true text a e valid (count, septets, value, few, long, some, are, octets, same, reads, is) = omega (arith, few, octets, ap length is)

address_short : (text : List ℕ) (a : Address) → IsAddressField text a → length text ≤ 12
address_short text a is = spelled_short (is_name a.ton) text a refl is.valid is.spelled

validity_short : (text : List ℕ) (v : ValidityPeriod) → IsValidityField text v → length text ≤ 7
validity_short text NotPresent is = rw is (omega arith)
validity_short text (Relative period) is = rw is (omega arith)
validity_short text (Absolute moment) is = omega (arith, stamp_len text moment is)

pub submit_short : (octets : List ℕ) (s : SubmitOf) → IsSubmit octets s → length octets ≤ 164
submit_short octets s (first, to, period, head, is_to, is_period, is_text, whole) =
    rw whole (omega (
      arith,
      address_short to s.destination_address is_to,
      validity_short period s.validity_period is_period,
      few_octets (coding_of s.data_coding_scheme) s.user_data.length is_text.within,
      is_text.whole,
      length-append to (s.protocol_identifier ∷ s.data_coding_scheme ∷ (period ++ user_data_field s.user_data)),
      length-append period (user_data_field s.user_data),
    ))

-- a unit that CP-DATA can't carry brings no TPDU that can be read
pub none_carried : (unit octets centre : List ℕ) (reference : ℕ) (rp : Rp) (tpdu : Up) → IsUnit unit rp → rp ≡ DataUnit reference centre octets → IsUp InData octets tpdu
    → (0 < length unit → length unit ≤ 248 → ⊥) → ⊥
none_carried unit octets centre reference rp (DeliverReport r) is e brings long = brings
none_carried unit octets centre reference rp (Submit s) is e brings long =
    let whole : IsUnit unit (DataUnit reference centre octets) = subst (λ (x : Rp). IsUnit unit x) e is in
    let few : length octets ≤ 164 = submit_short octets s brings in
    let front = length-append centre (length octets ∷ octets) in
    long (rw whole.2 (omega arith)) (rw whole.2 (omega (arith, whole.0.1, front, few)))
