-- References that test as one are equal.
use Rattle.std.proofs.Common.{◌≡◌, ℕ, true, false, eqb, refl, sym, ap, ◌∙◌, eq-eqb, eqb-true, true≢false}
use Rattle.std.specs.Prelude.{◌↔◌}
use Rattle.sms_concat.specs.Joining.{is_same_reference}
use Rattle.sms_alphabet.specs.declared.concat_key.ConcatReference.{ConcatReference}
use Rattle.sms_alphabet.specs.declared.concat_key.ConcatReference.TheVariants.{EightBit, SixteenBit}

pub same_reference : (a b : ConcatReference) → is_same_reference a b ≡ true → a ≡ b
same_reference (EightBit a) (EightBit b) e = ap (λ (n : ℕ). EightBit n) (eqb-true a b e)
same_reference (EightBit a) (SixteenBit b) e = absurd (true≢false (sym e))
same_reference (SixteenBit a) (EightBit b) e = absurd (true≢false (sym e))
same_reference (SixteenBit a) (SixteenBit b) e = ap (λ (n : ℕ). SixteenBit n) (eqb-true a b e)

pub one_reference : (r : ConcatReference) → is_same_reference r r ≡ true
one_reference (EightBit n) = eq-eqb n n refl
one_reference (SixteenBit n) = eq-eqb n n refl

pub one_is_same : (a b : ConcatReference) → (is_same_reference a b ≡ true) ↔ (a ≡ b)
one_is_same a b = (same_reference a b, λ e. ap (λ (r : ConcatReference). is_same_reference a r) (sym e) ∙ one_reference a)
