use Rattle.std.proofs.Common.{arith, sym, subst}
use Rattle.std.specs.Option.{SomeIff}
use Rattle.std.specs.Str.Parse.{AllDigits, digits_value}
use Rattle.std.proofs.lemmas.Int.Digits.{digits_value_more, digits_more}
use Rattle.sms_base.proofs.MessageIds.{digit_inside, few_digits}
use Rattle.sms_base.proofs.message_id.number_in.Goals as goal

pub returns-in_err-digit : goal.returns-in_err-digit
returns-in_err-digit c =
    let octets = c.args.octets.now in
    subst (λ r. SomeIff r (AllDigits 10 octets) (digits_value 10 octets)) (sym c.from_residual.ensures)
    (λ all. c.in_err-digit.ensures.value (digit_inside octets c.loop-i.i 0 (omega arith) all))

pub overflow_mul-number : goal.overflow_mul-number
overflow_mul-number c =
    omega (arith, few_digits c.args.octets.now c.loop-i.i (omega arith) c.requires c.loop-i.invariant.digits, c.loop-i.invariant.value)

pub overflow_add-number : goal.overflow_add-number
overflow_add-number c =
    omega (arith, few_digits c.args.octets.now c.loop-i.i (omega arith) c.requires c.loop-i.invariant.digits, c.loop-i.invariant.value, c.in_ok-digit.ensures.value)

pub loop-i-preserved : goal.loop-i-preserved
loop-i-preserved c =
    let octets = c.args.octets.now in
    let digit = c.in_ok-digit.ensures.value in
    record {
      digits = digits_more 10 octets c.loop-i.i (omega arith) c.loop-i.invariant.digits digit.0;
      value = omega (arith, c.loop-i.invariant.value, digit.1, digits_value_more 10 octets c.loop-i.i (omega arith));
    }
