-- Where no timer fires, firing them changes nothing; and one fires only where one runs.
use Rattle.std.proofs.Common.{◌≡◌, ℕ, Bool, true, false, Option, Some, None, refl, sym, ◌∙◌}
use Rattle.std.specs.Prelude.{◌||◌, is_some}
use Rattle.sms_control.specs.declared.link_state.Answer.{Answer}
use Rattle.sms_control.specs.declared.link_state.Begun.{Begun}
use Rattle.sms_control.specs.declared.link_state.LinkState.{LinkState}
use Rattle.sms_control.specs.declared.link_state.Opened.{Opened}
use Rattle.sms_control.specs.declared.timers.Firing.{Firing}
use Rattle.sms_control.specs.declared.timers.Firing.TheVariants.{Idle, Again, Closes}
use Rattle.sms_control.specs.DueTimers.{is_due, is_firing, is_timed}
use Rattle.sms_control.specs.LinkStep.{answer_of, fire_step, fired, quiet}
use Rattle.sms_control.specs.Timers.{begun_firing, opened_firing}

fired_quiet : (now : ℕ) (f g : Firing) (s : LinkState) → is_firing f || is_firing g ≡ false → fired now f g s ≡ quiet s
fired_quiet now Idle Idle s e = refl
fired_quiet now Idle Again s e = absurd cc
fired_quiet now Idle Closes s e = absurd cc
fired_quiet now Again g s e = absurd cc
fired_quiet now Closes g s e = absurd cc

pub quiet_timers : (now : ℕ) (s : LinkState) → is_due now s ≡ false → fire_step now s ≡ quiet s
unfolding fire_step
quiet_timers now s e = fired_quiet now (begun_firing now s.begun) (opened_firing now s.opened) s e

opened_runs : (now : ℕ) (o : Option Opened) → is_firing (opened_firing now o) ≡ true → is_some (answer_of o) ≡ true
opened_runs now None e = absurd cc
opened_runs now (Some o) e = answered now o.answer e where
  answered : (n : ℕ) (a : Option Answer) → is_firing (Rattle.sms_control.specs.Timers.answer_firing n a) ≡ true → is_some a ≡ true
  answered n None e = absurd cc
  answered n (Some a) e = refl

timed : (now : ℕ) (b : Option Begun) (o : Option Opened) → is_firing (begun_firing now b) || is_firing (opened_firing now o) ≡ true → is_some b || is_some (answer_of o) ≡ true
timed now None o e = opened_runs now o e
timed now (Some b) o e = refl

pub due_is_timed : (now : ℕ) (s : LinkState) → is_due now s ≡ true → is_timed s ≡ true
due_is_timed now s e = timed now s.begun s.opened e
