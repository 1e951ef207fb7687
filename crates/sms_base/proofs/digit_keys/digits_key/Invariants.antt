use Rattle.std.proofs.Common.{◌≡◌, ◌<◌, drop}
use Rattle.sms_base.specs.DigitsKey.{digits_from, digits_key}
use Rattle.sms_base.proofs.KeysOfDigits.{room}
use Rattle.sms_base.proofs.digit_keys.digits_key.Given as goal

abbrev pub invariant-loop-digit : goal.invariant-loop-digit
invariant-loop-digit l = record {
  rest : digits_from l.place (drop l.digit-index l.digits) ≡ digits_key l.digits;
  small : l.place < room l.digit-index;
}
