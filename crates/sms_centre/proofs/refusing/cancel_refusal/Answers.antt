use Rattle.std.proofs.Common.{Option, ap, sym, subst, ◌∙◌}
use Rattle.std.specs.Prelude.{option_copied}
use Rattle.sms_intake.specs.declared.submission.CentreAccount.{CentreAccount}
use Rattle.sms_centre_spec.specs.declared.setup.Setup.{Setup}
use Rattle.sms_centre_spec.specs.Draft.{draft_of}
use Rattle.sms_centre_spec.specs.Requests.{account_at, cancel_by, status_in}
use Rattle.sms_centre.specs.state.CentreState.{Represents, CentreStateOf}
use Rattle.sms_centre.proofs.refusing.cancel_refusal.Goals as goal

pub returns-in-Some : goal.returns-in-Some
returns-in-Some c = λ core represents.
    let is = subst (λ (s : CentreStateOf). Represents core s) (sym c.centre_state.view_is) represents in
    c.refusal_of_cancel.ensures (draft_of core) is.centre.messages_are
    ∙ ap (λ (account : Option CentreAccount). status_in (cancel_by account c.args.cancel.now (draft_of core)).answer)
    (ap (λ found. option_copied found) (sym c.in-Some.is) ∙ c.account_at.ensures ∙ ap (λ (s : Setup). account_at c.args.account s.accounts) is.centre.setup_is)

pub returns-in-None : goal.returns-in-None
returns-in-None c = λ core represents.
    let is = subst (λ (s : CentreStateOf). Represents core s) (sym c.centre_state.view_is) represents in
    ap (λ (account : Option CentreAccount). status_in (cancel_by account c.args.cancel.now (draft_of core)).answer)
    (ap (λ found. option_copied found) (sym c.in-None.is) ∙ c.account_at.ensures ∙ ap (λ (s : Setup). account_at c.args.account s.accounts) is.centre.setup_is)
