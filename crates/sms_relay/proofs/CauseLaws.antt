-- Causes and their numbers.
use Rattle.std.proofs.Common.{◌≡◌, ℕ, ◌<◌, Bool, true, false, cond, eqb, List, [], ◌∷◌, Option, Some, None, refl, ap, sym, subst, ◌∙◌, lit<}
use Rattle.std.specs.Option.{unwrap_or}
use Rattle.std.specs.List.{find, AllByRecursion}
use Rattle.std.proofs.lemmas.Bool.{eqb-true, ne_eqb}
use Rattle.sms_relay.specs.Cause.{number_of, named, cause_of, IsRpCause}
use Rattle.sms_relay.specs.declared.cause.RpCause.{RpCause}
use Rattle.sms_relay.specs.declared.cause.RpCause.TheVariants.{Reserved}

one_more : (b : Bool) (cause : RpCause) (number : ℕ) (rest : Option RpCause) → eqb (number_of cause) number ≡ b
    → number_of (unwrap_or rest (Reserved number)) ≡ number → number_of (unwrap_or (cond b (Some cause) rest) (Reserved number)) ≡ number
one_more true cause number rest is later = eqb-true (number_of cause) number is
one_more false cause number rest is later = later

found_has : (number : ℕ) (causes : List RpCause) → number_of (unwrap_or (find (λ cause. eqb (number_of cause) number) causes) (Reserved number)) ≡ number
found_has number [] = refl
found_has number (cause ∷ causes) = one_more (eqb (number_of cause) number) cause number (find (λ cause. eqb (number_of cause) number) causes) refl (found_has number causes)

pub cause_of-number : (number : ℕ) → number_of (cause_of number) ≡ number
unfolding cause_of
cause_of-number number = found_has number named

none_has : (number : ℕ) (causes : List RpCause) → AllByRecursion (λ cause. number_of cause ≡ number → ⊥) causes → find (λ cause. eqb (number_of cause) number) causes ≡ None
none_has number [] h = refl
none_has number (cause ∷ causes) h =
    let other : eqb (number_of cause) number ≡ false = ne_eqb (number_of cause) number h.0 in
    rw other (none_has number causes h.1)

-- a number below 128 that is no named cause's is that of a reserved cause
pub reserved_is : (number : ℕ) → number < 128 → AllByRecursion (λ cause. number_of cause ≡ number → ⊥) named → IsRpCause (Reserved number)
unfolding cause_of
reserved_is number fits h = (fits, ap (λ (o : Option RpCause). unwrap_or o (Reserved number)) (none_has number named h))

stood_for : (number : ℕ) (cause : RpCause) → number < 128 → cause_of number ≡ cause → IsRpCause cause
stood_for number (Reserved n) fits e =
    let same : n ≡ number = sym (ap number_of e) ∙ cause_of-number number in
    (subst (λ (m : ℕ). m < 128) (sym same) fits, ap cause_of same ∙ e)
stood_for number cause fits e = tt

-- the cause that a number below 128 stands for
pub cause_of-is : (number : ℕ) → number < 128 → IsRpCause (cause_of number)
cause_of-is number fits = stood_for number (cause_of number) fits refl

-- a cause of a frame is what its number stands for
pub number_of-is : (cause : RpCause) → IsRpCause cause → (number_of cause < 128) × (cause_of (number_of cause) ≡ cause)
unfolding cause_of
number_of-is (Reserved number) h = h
number_of-is _ h = (lit< tt, refl)
