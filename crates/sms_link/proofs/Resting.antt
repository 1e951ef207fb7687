-- Where no timer of a link fires, firing them leaves it as it is.
use Rattle.std.proofs.Common.{◌≡◌, ℕ, false, ap}
use Rattle.sms_control.specs.DueTimers.{is_due}
use Rattle.sms_control.specs.LinkStep.{Step}
use Rattle.sms_control.proofs.QuietTimers.{quiet_timers}
use Rattle.sms_link.specs.LinkTurn.{LinkOf, fired, heard, still}

pub rests : (now : ℕ) (l : LinkOf) → is_due now l.links ≡ false → fired now l ≡ still l
rests now l e = ap (λ (s : Step). heard s l) (quiet_timers now l.links e)
