use Rattle.std.proofs.Common.{◌≡◌, ℕ, suc, ◌+◌, ◌-◌, ◌*◌, ◌%◌, ◌<◌, sym, ap, ◌∙◌, subst, arith}
use Rattle.sms_base.specs.DigitsKey.{turned_onto}
use Rattle.sms_base.proofs.KeysOfDigits.{room, room_of_nineteen, turned_all, turned_on, turned_out}
use Rattle.sms_base.proofs.digit_keys.turned.Goals as goal

pub loop-step-init : goal.loop-step-init
loop-step-init c =
    let all : 20 - 0 ≡ 20 = omega arith in
    record { same = ap (λ (n : ℕ). turned_onto n c.args.key 0) all; small = omega arith }

pub overflow_mul-onto : goal.overflow_mul-onto
overflow_mul-onto c =
    let r = room_of_nineteen c.loop-step._step (omega (arith, c.loop-step-test.true)) in
    omega (arith, r, c.loop-step.invariant.small)

pub overflow_add-onto : goal.overflow_add-onto
overflow_add-onto c =
    let r = room_of_nineteen c.loop-step._step (omega (arith, c.loop-step-test.true)) in
    omega (arith, r, c.loop-step.invariant.small)

pub loop-step-preserved : goal.loop-step-preserved
loop-step-preserved c =
    let i = c.loop-step._step in
    let some : 0 < c.loop-step.rest = omega (arith, c.if-rest-eq0.false) in
    let on : 20 - i ≡ suc (20 - (i + 1)) = omega (arith, c.loop-step-test.true) in
    let q : suc i ≡ i + 1 = omega arith in
    record {
      same = sym (turned_on (20 - i) (20 - (i + 1)) c.loop-step.rest c.loop-step.onto on some) ∙ c.loop-step.invariant.same;
      small = subst (λ (n : ℕ). 16 * c.loop-step.onto + c.loop-step.rest % 16 < room n) q (omega (arith, c.loop-step.invariant.small));
    }

pub returns-then-rest-eq0 : goal.returns-then-rest-eq0
returns-then-rest-eq0 c =
    sym (turned_out (20 - c.loop-step._step) c.loop-step.rest c.loop-step.onto (omega (arith, c.if-rest-eq0.true))) ∙ c.loop-step.invariant.same

pub returns : goal.returns
returns c =
    sym (turned_all (20 - c.loop-step._step) c.loop-step.rest c.loop-step.onto (omega (arith, c.loop-step-test.false))) ∙ c.loop-step.invariant.same
