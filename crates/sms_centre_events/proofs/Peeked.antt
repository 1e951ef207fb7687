-- What is kept of the message that an application asks for.
use Rattle.std.proofs.Common.{◌≡◌, Bool, true, false, Option, Some, None, refl, sym, ◌∙◌, ap}
use Rattle.std.specs.Prelude.{◌&&◌, if◌then◌else◌}
use Rattle.std.specs.Option.{option_map}
use Rattle.sms_base.specs.declared.address.Address.{Address}
use Rattle.sms_centre_rows.specs.declared.messages.message.MessageRow.{MessageRow}
use Rattle.sms_intake.specs.declared.submission.CentreAccount.{CentreAccount}
use Rattle.sms_centre_messages.specs.declared.message_index.summary.MessageSummary.{MessageSummary}
use Rattle.sms_centre_messages.specs.message_index.Summaries.{is_of, summary_of}
use Rattle.sms_centre_spec.specs.Requests.{is_from, is_source, own_message}

-- it is not the account's
pub of_other : (account : CentreAccount) (source : Option Address) (o : Option MessageRow) → is_of account.name o ≡ false → option_map summary_of (own_message account source o) ≡ None
of_other account source None e = refl
of_other account source (Some m) e = ap (λ (b : Bool). option_map summary_of (if b && is_from source m then Some m else None)) e

if_kept : (b : Bool) (m : MessageRow) → option_map summary_of (if b then Some m else None) ≡ (if b then Some (summary_of m) else None)
if_kept true m = refl
if_kept false m = refl

-- it is, where it is from that source
pub of_account : (account : CentreAccount) (source : Option Address) (o : Option MessageRow) (found : MessageSummary) (result : Option MessageSummary)
    → is_of account.name o ≡ true → Some found ≡ option_map summary_of o → result ≡ (if is_source source found.source then Some found else None)
    → result ≡ option_map summary_of (own_message account source o)
of_account account source None found result e is r = absurd cc
of_account account source (Some m) found result e is r =
    let same : found ≡ summary_of m = cc in
    r ∙ ap (λ (x : MessageSummary). if is_source source x.source then Some x else None) same
    ∙ sym (ap (λ (b : Bool). option_map summary_of (if b && is_from source m then Some m else None)) e ∙ if_kept (is_from source m) m)
