-- A submit_sm that passed all checks is a submission that does: a centre that holds nothing would take it.
use Rattle.std.proofs.Common.{◌≡◌, ℕ, [], ◌∷◌, Ok, sym, subst, ⊎_elim, arith}
use Rattle.sms_base.specs.Address.{IsAddress}
use Rattle.sms_base.specs.TimeStamp.{IsMoment}
use Rattle.smpp_pdu.specs.declared.message.Message.{Message}
use Rattle.sms_intake.specs.declared.submission.CentreAccount.{CentreAccount}
use Rattle.sms_intake.specs.declared.submission.Submission.{Submission}
use Rattle.sms_intake.specs.SmppIntake.{from_pdu}
use Rattle.sms_centre_spec.specs.declared.event.CentreEvent.TheVariants.{Submit}
use Rattle.sms_centre_spec.specs.Draft.{Core}
use Rattle.sms_centre_spec.specs.SoundCore.{IsSoundCore}
use Rattle.sms_centre_spec.specs.SoundRows.{IsSetup, first_rows}
use Rattle.sms_centre_spec.specs.Consistent.{IsSubmission}
use Rattle.sms_centre_spec.proofs.PduFits.{event_gives}
use Rattle.sms_centre_spec.proofs.SoundBegins.{first_sound}

-- the centre of a new store with that account alone
abbrev pub with_account : CentreAccount → ℕ → Core
with_account a now = record {
  rows = first_rows (record { centre = a.address; start = now; first = 1; accounts = a ∷ [] });
  moment = now;
  links = [];
  sessions = [];
}

is_sound : (a : CentreAccount) (now : ℕ) → IsAddress a.address → IsMoment now → IsSoundCore (with_account a now)
is_sound a now address moment =
    let setup : IsSetup (record { centre = a.address; start = now; first = 1; accounts = a ∷ [] }) = record {
      centre = address;
      start = moment;
      accounts = λ x among. ⊎_elim (λ (e : x ≡ a). subst (λ (y : CentreAccount). IsAddress y.address) (sym e) address) (λ (n : ⊥). absurd n) among;
    } in
    record {
      rows = first_sound (record { centre = a.address; start = now; first = 1; accounts = a ∷ [] }) setup;
      now = moment;
      moment = omega arith;
      each_link = λ l among. absurd among;
      apart = tt;
      session_keys = tt;
      each_session = λ x among. absurd among;
    }

pub pdu_is_one : (a : CentreAccount) (now : ℕ) (m : Message) (u : Submission) → IsAddress a.address → IsMoment now → from_pdu a now m ≡ Ok u → IsSubmission u
pdu_is_one a now m u address moment e = event_gives (Submit 0 m) (with_account a now) (is_sound a now address moment) tt u e
