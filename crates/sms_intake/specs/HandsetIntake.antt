-- A SUBMIT from a handset (3GPP TS 23.040 9.2.2.2): the checks that need no rows, in order, and the submission.
use Rattle.std.specs.Prelude.{◌≡◌, ℕ, ◌||◌, nat_le, not, List, [], ◌∷◌, Bool, true, false, Result, Ok, Err}
use Rattle.std.specs.Str.{bytes_eq}
use Rattle.sms_base.specs.HandsetNumber.{names_handset, own_address}
use Rattle.sms_base.specs.Reading.{◌>>=◌, only_if}
use Rattle.sms_base.specs.declared.originator.Originator.TheVariants.{Handset}
use Rattle.sms_base.specs.declared.wish.Wish.{Wish}
use Rattle.sms_base.specs.declared.wish.Wish.TheVariants.{Nothing, Always}
use Rattle.sms_alphabet.specs.Concatenation.{header_key}
use Rattle.sms_tpdu.specs.declared.fault.TpduFault.{TpduFault}
use Rattle.sms_tpdu.specs.declared.submit.Submit.{Submit as SubmitOf}
use Rattle.sms_tpdu.specs.declared.up.Up.{Up}
use Rattle.sms_tpdu.specs.declared.up.Up.TheVariants.{Submit, DeliverReport}
use Rattle.sms_tpdu.specs.declared.validity_period.ValidityPeriod.{ValidityPeriod}
use Rattle.sms_tpdu.specs.declared.validity_period.ValidityPeriod.TheVariants.{NotPresent, Relative, Absolute}
use Rattle.sms_tpdu.specs.ValidityTable.{valid_until}
use Rattle.sms_intake.specs.declared.refusal.SubmitError.{SubmitError}
use Rattle.sms_intake.specs.declared.refusal.SubmitError.TheVariants.{Refused, NoMemory}
use Rattle.sms_intake.specs.declared.refusal.SubmitRefusal.{SubmitRefusal}
use Rattle.sms_intake.specs.declared.refusal.SubmitRefusal.TheVariants.{WrongType, NoHandset, OfAccount, PastLimit}
use Rattle.sms_intake.specs.declared.submission.CentreAccount.{CentreAccount}
use Rattle.sms_intake.specs.declared.submission.Submission.{Submission}
use Rattle.sms_intake.specs.declared.submission.Text.TheVariants.{Single}
use Rattle.sms_intake.specs.Refusals.{unread}

-- an absolute limit at or before the moment
abbrev pub is_past : ℕ → ValidityPeriod → Bool
is_past now NotPresent = false
is_past now (Relative period) = false
is_past now (Absolute limit) = nat_le limit now

-- TP-SRR
abbrev pub wish_of : Bool → Wish
wish_of false = Nothing
wish_of true = Always

-- The handset itself is its source, it is due at once, without urgency, and its user data passes octet for octet.
abbrev pub submission_of : List ℕ → ℕ → SubmitOf → Submission
submission_of from now s = record {
  originator = Handset s.message_reference;
  source = own_address from;
  handset = s.destination_address.digits;
  protocol_identifier = s.protocol_identifier;
  reply_path = s.reply_path;
  wish = wish_of s.status_report_request;
  rejects_duplicates = s.reject_duplicates;
  limit = valid_until s.validity_period now;
  due = now;
  priority = 0;
  text = Single (record {
    header_indicator = s.user_data_header_indicator;
    data_coding_scheme = s.data_coding_scheme;
    length = s.user_data.length;
    octets = s.user_data.octets;
    key = header_key s.user_data_header_indicator s.user_data.octets;
  });
}

-- an account has these digits for its address
abbrev pub is_of_account : List ℕ → List CentreAccount → Bool
is_of_account digits [] = false
is_of_account digits (account ∷ accounts) = bytes_eq account.address.digits digits || is_of_account digits accounts

-- the destination is a handset, then it is no account's, then the limit isn't past
unfoldable pub from_submit : List CentreAccount → List ℕ → ℕ → SubmitOf → Result Submission SubmitRefusal
from_submit accounts from now s = do
  handset ← only_if (names_handset s.destination_address) NoHandset
  alone ← only_if (not (is_of_account s.destination_address.digits accounts)) OfAccount
  kept ← only_if (not (is_past now s.validity_period)) PastLimit
  Ok (submission_of from now s)

-- of what was read of RP-DATA, which has no DELIVER-REPORT
abbrev pub from_read : List CentreAccount → List ℕ → ℕ → Result Up TpduFault → Result Submission SubmitRefusal
from_read accounts from now (Ok (Submit s)) = from_submit accounts from now s
from_read accounts from now (Ok (DeliverReport r)) = Err WrongType
from_read accounts from now (Err fault) = Err (unread fault)

-- The answer is the wanted one. Want of memory is reported only of what is accepted.
abbrev pub AnswersIntake : Result Submission SubmitError → Result Submission SubmitRefusal → Type 0
AnswersIntake (Ok s) wanted = wanted ≡ Ok s
AnswersIntake (Err (Refused refusal)) wanted = wanted ≡ Err refusal
AnswersIntake (Err NoMemory) wanted = (s : Submission) × (wanted ≡ Ok s)
