-- Each deliver_sm that an event sends goes to a session that receives, of the account that submitted the message.
use Rattle.std.proofs.Common.{ℕ, List, Bool}
use Rattle.sms_base.specs.Among.{Among}
use Rattle.sms_centre_rows.specs.declared.reports.delivery.Delivery.{Delivery}
use Rattle.sms_intake.specs.declared.submission.CentreAccount.{CentreAccount}
use Rattle.sms_centre_spec.specs.CentreEvent.{happened}
use Rattle.sms_centre_spec.specs.Draft.{Core, messages_in}
use Rattle.sms_centre_spec.specs.SoundCore.{IsSoundCore}
use Rattle.sms_centre_spec.specs.declared.event.CentreEvent.{CentreEvent}
use Rattle.sms_centre_spec.specs.declared.event.CentreEvent.TheVariants.{Bound, Unbound}
use Rattle.sms_centre_spec.proofs.BoundSessions.{Becomes, Goes, sends_of}

-- nothing is asked of a session
abbrev IsAny : ℕ → List ℕ → Bool → Type 0
IsAny number name receives = Unit {0}

any_stays : (event : CentreEvent) (accounts : List CentreAccount) → Becomes event accounts IsAny IsAny
any_stays (Bound n place own) accounts = (λ k name receives other a. tt, λ account e. tt)
any_stays (Unbound n) accounts = λ k name receives other a. tt
any_stays event accounts = λ k name receives a. tt

pub goes_to : (event : CentreEvent) (c : Core) → IsSoundCore c → (x : Delivery) → Among x (happened event c).bindings.deliveries
    → Goes (messages_in (happened event c).store) (happened event c).bindings.sessions x
goes_to event c s x i = (sends_of IsAny IsAny c s (λ session among. tt) event (any_stays event c.rows.setup.accounts)).each x i
