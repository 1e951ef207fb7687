-- A timer is idle, sends again or closes: for callers outside, where the cases have no names.
use Rattle.sms_control.specs.declared.timers.Firing.{Firing}
use Rattle.sms_control.specs.declared.timers.Firing.TheVariants.{Idle, Again, Closes}

pub firing_cases : (P : Firing → Type 0) → P Idle → P Again → P Closes → (f : Firing) → P f
firing_cases P a b c Idle = a
firing_cases P a b c Again = b
firing_cases P a b c Closes = c
