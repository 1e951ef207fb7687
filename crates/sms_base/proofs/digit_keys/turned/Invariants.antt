use Rattle.std.proofs.Common.{◌≡◌, ◌<◌, ◌-◌}
use Rattle.sms_base.specs.DigitsKey.{turned_onto}
use Rattle.sms_base.proofs.KeysOfDigits.{room}
use Rattle.sms_base.proofs.digit_keys.turned.Given as goal

abbrev pub invariant-loop-step : goal.invariant-loop-step
invariant-loop-step l = record {
  same : turned_onto (20 - l._step) l.rest l.onto ≡ turned_onto 20 l.key 0;
  small : l.onto < room l._step;
}
