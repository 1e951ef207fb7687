use Rattle.sms_control.proofs.QuietTimers.{due_is_timed}
use Rattle.sms_link.proofs.Resting.{rests}
use Rattle.sms_link.proofs.laws.a_link_rests_until_a_timer_fires.Goals as goal

pub returns : goal.returns
returns c = record { rests = rests; runs = λ now link e. due_is_timed now link.links e }
