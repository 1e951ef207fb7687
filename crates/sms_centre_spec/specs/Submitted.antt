-- What an event submits: the submission has passed all checks that need no rows.
use Rattle.std.specs.Prelude.{◌≡◌, ℕ, List, Option, Some, None, Result, Ok, Err}
use Rattle.sms_base.specs.TimeStamp.{IsMoment}
use Rattle.sms_link.specs.declared.ending.Upward.{Upward}
use Rattle.sms_link.specs.declared.ending.Upward.TheVariants.{Opened, Ended}
use Rattle.sms_link.specs.LinkTurn.{taken}
use Rattle.sms_relay.specs.declared.fault.RelayFault.{RelayFault}
use Rattle.sms_relay.specs.declared.frame.Rp.{Rp}
use Rattle.sms_relay.specs.declared.frame.Rp.TheVariants.{DataUnit, AckUnit, ErrorUnit, Smma}
use Rattle.sms_relay.specs.RelayReading.{up_at}
use Rattle.sms_tpdu.specs.declared.carrier.Carrier.TheVariants.{InData}
use Rattle.sms_tpdu.specs.TpduReading.{up_at as tpdu_up_at}
use Rattle.smpp_pdu.specs.declared.message.Message.{Message}
use Rattle.sms_centre_rows.specs.declared.waiting.handset_link.HandsetLink.{HandsetLink}
use Rattle.sms_centre_rows.specs.waiting.Links.{link_of}
use Rattle.sms_intake.specs.HandsetIntake.{from_read}
use Rattle.sms_centre_spec.specs.declared.event.CentreEvent.{CentreEvent}
use Rattle.sms_centre_spec.specs.declared.event.CentreEvent.TheVariants.{Submit, Query, Cancel, Bound, Unbound, DeliverAnswered, Frame, LinkUp, LinkDown}
use Rattle.sms_centre_spec.specs.declared.event.CentreEvent.TheVariants.{Ordered, Tick}
use Rattle.sms_intake.specs.declared.submission.CentreAccount.{CentreAccount}
use Rattle.sms_intake.specs.declared.submission.Submission.{Submission}
use Rattle.sms_centre_spec.specs.Draft.{Core}
use Rattle.sms_centre_spec.specs.Requests.{account_at}
use Rattle.sms_intake.specs.SmppIntake.{from_pdu}
use Rattle.sms_centre_spec.specs.Consistent.{IsSubmission}

-- what a unit submits to a centre with these accounts
abbrev pub UnitGives : List CentreAccount → List ℕ → ℕ → Result Rp RelayFault → Type 0
UnitGives accounts handset moment (Ok (DataUnit reference centre tpdu)) =
    (u : Submission) → from_read accounts handset moment (tpdu_up_at InData tpdu) ≡ Ok u → IsSubmission u
UnitGives accounts handset moment (Ok (AckUnit reference tpdu)) = Unit {0}
UnitGives accounts handset moment (Ok (ErrorUnit reference cause tpdu)) = Unit {0}
UnitGives accounts handset moment (Ok (Smma reference)) = Unit {0}
UnitGives accounts handset moment (Err fault) = Unit {0}

-- and of what a link passes up
abbrev pub UpGives : List CentreAccount → List ℕ → ℕ → Option Upward → Type 0
UpGives accounts handset moment None = Unit {0}
UpGives accounts handset moment (Some (Opened unit)) = UnitGives accounts handset moment (up_at unit)
UpGives accounts handset moment (Some (Ended transfer ending)) = Unit {0}

-- the same of what an account submits
abbrev pub AccountGives : Option CentreAccount → ℕ → Message → Type 0
AccountGives None moment m = Unit {0}
AccountGives (Some account) moment m = (u : Submission) → from_pdu account moment m ≡ Ok u → IsSubmission u

-- and of an event; a tick has a moment
abbrev pub EventGives : CentreEvent → Core → Type 0
EventGives (Submit account m) c = AccountGives (account_at account c.rows.setup.accounts) c.moment m
EventGives (Query account q) c = Unit {0}
EventGives (Cancel account q) c = Unit {0}
EventGives (Bound session account receives) c = Unit {0}
EventGives (Unbound session) c = Unit {0}
EventGives (DeliverAnswered session id b) c = Unit {0}
EventGives (Frame handset octets tag) c =
    let l : HandsetLink = link_of handset c.links in UpGives c.rows.setup.accounts l.handset c.moment (taken octets l.near_end).out.up
EventGives (LinkUp handset) c = Unit {0}
EventGives (LinkDown handset) c = Unit {0}
EventGives (Ordered order id) c = Unit {0}
EventGives (Tick now) c = IsMoment now
