use Rattle.sms_tpdu.specs.AddressReading.{digits_in}
use Rattle.sms_tpdu.proofs.DigitWalk.{ReadsOn}
use Rattle.sms_tpdu.proofs.address_field.take_digits.Given as goal

abbrev pub invariant-loop : goal.invariant-loop
invariant-loop l = ReadsOn l.digits l.cursor l.count l.counter (digits_in l.fn.count l.fn.cursor)
