-- A submit_sm that its octets refuse.
use Rattle.std.proofs.Common.{◌≡◌, ℕ, Option, Some, None, Result, Ok, Err, ap}
use Rattle.smpp_pdu.specs.declared.message.Message.{Message}
use Rattle.smpp_pdu.specs.declared.status.CommandStatus.{CommandStatus}
use Rattle.sms_intake.specs.declared.submission.CentreAccount.{CentreAccount}
use Rattle.sms_intake.specs.declared.submission.Submission.{Submission}
use Rattle.sms_intake.specs.SmppIntake.{from_pdu, refusal_in}
use Rattle.sms_centre_spec.specs.Draft.{Core, Draft, draft_of}
use Rattle.sms_centre_spec.specs.Requests.{account_at, octets_refusal, octets_refuse, refused, submission_received, submit, submit_by}

received : (r : Result Submission CommandStatus) (d : Draft) (status : CommandStatus) → refusal_in r ≡ Some status → submission_received r d ≡ refused status d
received (Ok s) d status e = absurd cc
received (Err other) d status e = let same : other ≡ status = cc in ap (λ (x : CommandStatus). refused x d) same

by_account : (account : Option CentreAccount) (m : Message) (d : Draft) (status : CommandStatus) → octets_refuse account d.store.moment m ≡ Some status → submit_by account m d ≡ refused status d
by_account None m d status e = absurd cc
by_account (Some account) m d status e = received (from_pdu account d.store.moment m) d status e

pub refused_by_octets : (account : ℕ) (m : Message) (c : Core) (status : CommandStatus) → octets_refusal account m c ≡ Some status → submit account m (draft_of c) ≡ refused status (draft_of c)
refused_by_octets account m c status e = by_account (account_at account c.rows.setup.accounts) m (draft_of c) status e
