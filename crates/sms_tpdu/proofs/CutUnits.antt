-- A TPDU that was cut.
use Rattle.std.proofs.Common.{ℕ, ◌/◌, ◌%◌, Bool, true, false, eqb, List, Result}
use Rattle.std.specs.Prelude.{if◌then◌else◌}
use Rattle.sms_base.specs.Reading.{octet_in}
use Rattle.sms_base.proofs.Cuts.{CutsShort, CutsWhole, cuts_octet, cuts_pure, cuts_bind, whole_bind, whole_test, whole_end}
use Rattle.sms_alphabet.specs.DataCodingScheme.{coding_of}
use Rattle.sms_tpdu.specs.declared.fault.TpduFault.{TpduFault}
use Rattle.sms_tpdu.specs.declared.fault.TpduFault.TheVariants.{Truncated, TrailingOctets, UnsupportedType, UnsupportedValidity}
use Rattle.sms_tpdu.specs.Bits.{bit}
use Rattle.sms_tpdu.specs.AddressReading.{address_in}
use Rattle.sms_tpdu.specs.TimeReading.{time_in}
use Rattle.sms_tpdu.specs.UserDataReading.{user_data_in}
use Rattle.sms_tpdu.specs.TpduReading.{deliver_at, relative_in, absolute_in, validity_in, submit_rest_in, submit_at}
use Rattle.sms_tpdu.proofs.CutFields.{address_cut, time_cut, data_cut}

pub deliver_cut : CutsWhole Truncated deliver_at
unfolding deliver_at
deliver_cut =
    whole_bind Truncated (octet_in Truncated) _ (cuts_octet Truncated) (λ first. whole_test Truncated _ UnsupportedType _
    (whole_bind Truncated address_in _ address_cut (λ from.
    whole_bind Truncated (octet_in Truncated) _ (cuts_octet Truncated) (λ protocol.
    whole_bind Truncated (octet_in Truncated) _ (cuts_octet Truncated) (λ scheme.
    whole_bind Truncated time_in _ time_cut (λ stamp.
    whole_bind Truncated (user_data_in (coding_of scheme) (bit first 64)) _ (data_cut (coding_of scheme) (bit first 64)) (λ text.
    whole_end Truncated TrailingOctets _)))))))

relative_cut : CutsShort Truncated relative_in
unfolding relative_in
relative_cut = cuts_bind Truncated (octet_in Truncated) _ (cuts_octet Truncated) (λ period. cuts_pure Truncated _)

absolute_cut : CutsShort Truncated absolute_in
unfolding absolute_in
absolute_cut = cuts_bind Truncated time_in _ time_cut (λ limit. cuts_pure Truncated _)

cuts_either : {X : Type 0} (b : Bool) (r s : List ℕ → Result (X × List ℕ) TpduFault) → CutsShort Truncated r → CutsShort Truncated s → CutsShort Truncated (λ xs. if b then r xs else s xs)
cuts_either true r s h k xs ys z e = h xs ys z e
cuts_either false r s h k xs ys z e = k xs ys z e

validity_cut : (format : ℕ) → CutsShort Truncated (validity_in format)
unfolding validity_in
validity_cut format = cuts_either (eqb format 0) _ _ (cuts_pure Truncated _) (cuts_either (eqb format 2) relative_in absolute_in relative_cut absolute_cut)

submit_rest_cut : (first : ℕ) → CutsWhole Truncated (submit_rest_in first)
unfolding submit_rest_in
submit_rest_cut first =
    whole_bind Truncated (octet_in Truncated) _ (cuts_octet Truncated) (λ reference.
    whole_bind Truncated address_in _ address_cut (λ to.
    whole_bind Truncated (octet_in Truncated) _ (cuts_octet Truncated) (λ protocol.
    whole_bind Truncated (octet_in Truncated) _ (cuts_octet Truncated) (λ scheme.
    whole_bind Truncated (validity_in (first / 8 % 4)) _ (validity_cut (first / 8 % 4)) (λ period.
    whole_bind Truncated (user_data_in (coding_of scheme) (bit first 64)) _ (data_cut (coding_of scheme) (bit first 64)) (λ text.
    whole_end Truncated TrailingOctets _))))))

pub submit_cut : CutsWhole Truncated submit_at
unfolding submit_at
submit_cut =
    whole_bind Truncated (octet_in Truncated) _ (cuts_octet Truncated) (λ first. whole_test Truncated _ UnsupportedType _
    (whole_test Truncated _ UnsupportedValidity _ (submit_rest_cut first)))
