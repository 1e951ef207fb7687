-- Optional parameters that cannot be read end too early: that is their only fault.
use Rattle.std.proofs.Common.{◌≡◌, ◌⊎◌, ℕ, zero, suc, ◌+◌, ◌*◌, Bool, true, false, cond, ltb, List, [], ◌∷◌, length, take, drop, Result, Ok, Err, refl, sym, ap, ◌∙◌, inl, inr}
use Rattle.sms_base.specs.Reading.{◌>>=◌, run_in}
use Rattle.smpp_pdu.specs.declared.fault.PduFault.{PduFault}
use Rattle.smpp_pdu.specs.declared.fault.PduFault.TheVariants.{BadTlv}
use Rattle.smpp_pdu.specs.declared.tlv.Tlvs.{Tlvs}
use Rattle.smpp_pdu.specs.Tlvs.{values_of}
use Rattle.smpp_pdu.specs.FieldReading.{two_in}
use Rattle.smpp_pdu.specs.TlvReading.{tlv_in, parameters_in, tlvs_at}

OnlyEnds : {Z : Type 0} → Result Z PduFault → Type 0
OnlyEnds {Z} r = ((z : Z) × (r ≡ Ok z)) ⊎ (r ≡ Err BadTlv)

two_ends : (xs : List ℕ) → OnlyEnds (two_in BadTlv xs)
unfolding two_in OnlyEnds
two_ends [] = inr refl
two_ends (a ∷ []) = inr refl
two_ends (a ∷ b ∷ xs) = inl ((256 * a + b, xs), refl)

run_ends : (n : ℕ) (xs : List ℕ) → OnlyEnds (run_in BadTlv n xs)
unfolding run_in OnlyEnds
run_ends n xs = by_test (ltb (length xs) n) where
  by_test : (b : Bool) → OnlyEnds {Z = List ℕ × List ℕ} (cond b (Err BadTlv) (Ok (take n xs, drop n xs)))
  by_test true = inr refl
  by_test false = inl ((take n xs, drop n xs), refl)

ends_bind : {A Z : Type 0} (r : Result A PduFault) (k : A → Result Z PduFault) → OnlyEnds r → ((x : A) → OnlyEnds (k x)) → OnlyEnds (r >>= k)
unfolding OnlyEnds
ends_bind (Ok x) k h g = g x
ends_bind {A} {Z} (Err f) k (inl p) g = absurd (let e = p.1 in cc)
ends_bind {A} {Z} (Err f) k (inr p) g = inr (let e : f ≡ BadTlv = cc in ap (λ (y : PduFault). let r : Result Z PduFault = Err y in r) e)

tlv_ends : (xs : List ℕ) → OnlyEnds (tlv_in xs)
unfolding tlv_in OnlyEnds
tlv_ends xs =
    ends_bind (two_in BadTlv xs) _ (two_ends xs) (λ tag.
    ends_bind (two_in BadTlv tag.1) _ (two_ends tag.1) (λ len.
    ends_bind (run_in BadTlv len.0 len.1) _ (run_ends len.0 len.1) (λ value. inl (((tag.0, value.0), value.1), refl))))

-- a parameter that is not read ends too early
pub tlv_faults : (xs : List ℕ) (f : PduFault) → tlv_in xs ≡ Err f → tlv_in xs ≡ Err BadTlv
unfolding OnlyEnds
tlv_faults xs f e = elim (tlv_ends xs) [ inl p ↦ absurd (let q = sym p.1 ∙ e in cc) | inr p ↦ p ]

parameters_end : (n : ℕ) (xs : List ℕ) → OnlyEnds (parameters_in n xs)
unfolding parameters_in OnlyEnds
parameters_end zero [] = inl ([], refl)
parameters_end zero (o ∷ xs) = inr refl
parameters_end (suc n) [] = inl ([], refl)
parameters_end (suc n) (o ∷ xs) =
    ends_bind (tlv_in (o ∷ xs)) _ (tlv_ends (o ∷ xs)) (λ tlv.
    ends_bind (parameters_in n tlv.1) _ (parameters_end n tlv.1) (λ tlvs. inl (tlv.0 ∷ tlvs, refl)))

tlvs_end : (xs : List ℕ) → OnlyEnds (tlvs_at xs)
unfolding tlvs_at OnlyEnds
tlvs_end xs = ends_bind (parameters_in (length xs) xs) _ (parameters_end (length xs) xs) (λ tlvs. inl (values_of tlvs, refl))

pub only_bad_tlv : (xs : List ℕ) (f : PduFault) → tlvs_at xs ≡ Err f → f ≡ BadTlv
unfolding OnlyEnds
only_bad_tlv xs f e = elim (tlvs_end xs) [
  | inl p ↦ absurd (let q = sym p.1 ∙ e in cc)
  | inr p ↦ (let q : (let r : Result Tlvs PduFault = Err BadTlv in r) ≡ Err f = sym p ∙ e in cc)
]
