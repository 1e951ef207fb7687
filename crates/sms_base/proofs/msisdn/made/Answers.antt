use Rattle.std.proofs.Common.{◌≡◌, ℕ, List, sym, ap, ◌∙◌, subst}
use Rattle.sms_base.specs.DigitsKey.{digits_key, spelled}
use Rattle.sms_base.specs.Msisdn.{IsMsisdn}
use Rattle.sms_base.proofs.KeysOfDigits.{key_spells}
use Rattle.sms_base.proofs.msisdn.made.Goals as goal

pub invariant_of-result : goal.invariant_of-result
invariant_of-result c =
    let digits = c.args.digits.now in
    let back : spelled c.digits_key.result ≡ digits =
    ap (λ (key : ℕ). spelled key) c.digits_key.ensures.value ∙ key_spells digits c.requires.each c.requires.few in (
      subst (λ (ds : List ℕ). IsMsisdn ds) (sym back) c.requires,
      ap (λ (ds : List ℕ). digits_key ds) back ∙ sym c.digits_key.ensures.value,
    )

pub returns : goal.returns
returns c = ap (λ (key : ℕ). spelled key) c.digits_key.ensures.value ∙ key_spells c.args.digits.now c.requires.each c.requires.few
