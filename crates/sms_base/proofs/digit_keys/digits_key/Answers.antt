use Rattle.std.proofs.Common.{arith, ◌≡◌, ◌<◌, ◌*◌, ◌+◌, suc, refl, sym, ap, ◌∙◌, subst, length, drop, get_or}
use Rattle.std.proofs.Math.Seq.{drop-cons, drop-length}
use Rattle.sms_base.specs.DigitsKey.{digit_code as digit_code_of, digits_from, digits_key}
use Rattle.sms_base.proofs.KeysOfDigits.{room, room_of_twenty, room_of_nineteen}
use Rattle.sms_base.proofs.digit_keys.digits_key.Goals as goal

pub loop-digit-init : goal.loop-digit-init
loop-digit-init c = record { rest = refl; small = omega arith }

pub overflow_mul-place : goal.overflow_mul-place
overflow_mul-place c =
    let r = room_of_nineteen c.loop-digit.digit-index (omega (arith, c.loop-digit-test.true, c.requires)) in
    omega (arith, r, c.loop-digit.invariant.small)

pub overflow_add-place : goal.overflow_add-place
overflow_add-place c =
    let r = room_of_nineteen c.loop-digit.digit-index (omega (arith, c.loop-digit-test.true, c.requires)) in
    omega (arith, r, c.loop-digit.invariant.small, c.from.ensures, c.digit_code.ensures.small)

pub loop-digit-preserved : goal.loop-digit-preserved
loop-digit-preserved c =
    let digits = c.args.digits.now in
    let i = c.loop-digit.digit-index in
    let front = drop-cons digits i c.digit-item.result (omega (arith, c.loop-digit-test.true)) in
    let code : c.from.result ≡ digit_code_of (get_or digits i c.digit-item.result) = c.from.ensures ∙ c.digit_code.ensures.value ∙ ap (λ x. digit_code_of x) c.digit-item.is in
    let q : suc i ≡ i + 1 = omega arith in
    record {
      rest = subst (λ n. digits_from (16 * c.loop-digit.place + c.from.result) (drop n digits) ≡ digits_key digits) q
          (ap (λ x. digits_from (16 * c.loop-digit.place + x) (drop (suc i) digits)) code
          ∙ sym (ap (λ l. digits_from c.loop-digit.place l) front) ∙ c.loop-digit.invariant.rest);
      small = subst (λ n. 16 * c.loop-digit.place + c.from.result < room n) q (omega (arith, c.loop-digit.invariant.small, c.from.ensures, c.digit_code.ensures.small));
    }

pub returns-clause-value : goal.returns-clause-value
returns-clause-value c =
    let digits = c.args.digits.now in
    let q : c.loop-digit.digit-index ≡ length digits = omega (arith, c.loop-digit-test.false, c.loop-digit.auto.digit-index-end) in
    sym (ap (λ l. digits_from c.loop-digit.place l) (ap (λ n. drop n digits) q ∙ drop-length digits)) ∙ c.loop-digit.invariant.rest

pub returns-clause-small : goal.returns-clause-small
returns-clause-small c =
    let r = room_of_twenty c.loop-digit.digit-index (omega (arith, c.loop-digit.auto.digit-index-end, c.requires)) in
    omega (arith, r, c.loop-digit.invariant.small)
