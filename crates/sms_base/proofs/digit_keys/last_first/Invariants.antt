use Rattle.std.proofs.Common.{◌≡◌, ◌-◌, ◌++◌, length}
use Rattle.sms_base.specs.DigitsKey.{last_first as last_first_of}
use Rattle.sms_base.proofs.digit_keys.last_first.Given as goal

abbrev pub invariant-loop-step : goal.invariant-loop-step
invariant-loop-step l = record {
  same : l.digits ++ last_first_of (20 - l._step) l.rest ≡ last_first_of 20 l.key;
  few : length l.digits ≡ l._step;
}
