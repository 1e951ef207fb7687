-- How long answers are.
use Rattle.std.proofs.Common.{◌≡◌, ℕ, length, refl}
use Rattle.sms_relay.specs.Cause.{IsRpCause}
use Rattle.sms_intake.specs.declared.refusal.SubmitRefusal.{SubmitRefusal}
use Rattle.sms_intake.specs.declared.refusal.SubmitRefusal.TheVariants.{WrongType}
use Rattle.sms_intake.specs.Refusals.{cause_of}
use Rattle.sms_intake.specs.SubmitReports.{accepting_report, refusing_report}

pub accepting_length : (moment : ℕ) → length (accepting_report moment) ≡ 9
accepting_length moment = refl

pub refusing_length : (refusal : SubmitRefusal) (moment : ℕ) → length (refusing_report refusal moment) ≡ 10
refusing_length refusal moment = refl

pub refusal_cause : (refusal : SubmitRefusal) → IsRpCause (cause_of refusal)
refusal_cause WrongType = tt
refusal_cause _ = tt
