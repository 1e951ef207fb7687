use Rattle.std.proofs.Common.{ℕ, ap, ◌∙◌}
use Rattle.sms_base.specs.DigitsKey.{last_first as last_first_of}
use Rattle.sms_base.proofs.KeysOfDigits.{spelled_is}
use Rattle.sms_base.proofs.digit_keys.spelled.Goals as goal

pub returns : goal.returns
returns c = c.last_first.ensures ∙ ap (λ (key : ℕ). last_first_of 20 key) c.turned.ensures ∙ spelled_is c.args.key
