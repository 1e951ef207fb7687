-- Whether a timer of a link fires at a moment, and whether one runs at all.
use Rattle.std.specs.Prelude.{ℕ, ◌||◌, Bool, false, true, is_some}
use Rattle.sms_control.specs.declared.link_state.LinkState.{LinkState}
use Rattle.sms_control.specs.declared.timers.Firing.{Firing}
use Rattle.sms_control.specs.declared.timers.Firing.TheVariants.{Idle, Again, Closes}
use Rattle.sms_control.specs.LinkStep.{answer_of}
use Rattle.sms_control.specs.Timers.{begun_firing, opened_firing}

abbrev pub is_firing : Firing → Bool
is_firing Idle = false
is_firing Again = true
is_firing Closes = true

-- one of its timers fires then
abbrev pub is_due : ℕ → LinkState → Bool
is_due now s = is_firing (begun_firing now s.begun) || is_firing (opened_firing now s.opened)

-- this side began a transaction, or answered one of the other side's: timers run for nothing else
abbrev pub is_timed : LinkState → Bool
is_timed s = is_some s.begun || is_some (answer_of s.opened)
