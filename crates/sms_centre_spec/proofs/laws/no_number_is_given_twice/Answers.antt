use Rattle.sms_centre_spec.proofs.Answered.{answer_next}
use Rattle.sms_centre_spec.proofs.NumbersSteady.{event_numbers, next_is_new}
use Rattle.sms_centre_spec.proofs.laws.no_number_is_given_twice.Goals as goal

pub returns : goal.returns
returns c = record { new = next_is_new; added = event_numbers; answered = answer_next }
