use Rattle.std.proofs.Common.{◌≡◌, ◌∙◌, ◌⊎◌, ℕ, ◌+◌, suc, List, drop, get_or, length, ap, sym, subst, ⊎_elim, arith}
use Rattle.std.proofs.Math.Seq.{drop-cons, drop-length}
use Rattle.sms_base.specs.Address.{IsAddress}
use Rattle.sms_base.specs.Among.{Among}
use Rattle.sms_base.specs.HandsetNumber.{own_address}
use Rattle.sms_base.proofs.msisdn.are_numbers.Goals as goal

pub loop-number-init : goal.loop-number-init
loop-number-init c = λ all. all

pub loop-number-preserved : goal.loop-number-preserved
loop-number-preserved c = λ left.
    let numbers = c.args.numbers.now in
    let i = c.loop-number.number-index in
    let front = drop-cons numbers i c.number-item.result (omega (arith, c.loop-number-test.true)) in
    let q : suc i ≡ i + 1 = omega arith in
    c.loop-number.invariant (λ digits a. ⊎_elim
    (λ (e : digits ≡ get_or numbers i c.number-item.result). subst (λ (d : List ℕ). IsAddress (own_address d)) (c.number-item.is ∙ sym e) c.spells_a_number.ensures.address)
    (λ (r : Among digits (drop (suc i) numbers)). left digits (subst (λ (n : ℕ). Among digits (drop n numbers)) q r))
    (subst (λ (l : List (List ℕ)). Among digits l) front a))

pub returns : goal.returns
returns c =
    let numbers = c.args.numbers.now in
    let q : c.loop-number.number-index ≡ length numbers = omega (arith, c.loop-number-test.false, c.loop-number.auto.number-index-end) in
    c.loop-number.invariant (λ digits a. elim (subst (λ (l : List (List ℕ)). Among digits l) (ap (λ n. drop n numbers) q ∙ drop-length numbers) a) [ ])
