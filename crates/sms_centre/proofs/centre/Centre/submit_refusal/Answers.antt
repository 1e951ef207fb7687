use Rattle.std.proofs.Common.{ℕ, ap, sym, subst, ◌∙◌}
use Rattle.sms_centre_spec.specs.declared.setup.Setup.{Setup}
use Rattle.sms_centre_spec.specs.Requests.{account_at, octets_refuse}
use Rattle.sms_centre.specs.state.CentreState.{Represents, CentreStateOf}
use Rattle.sms_centre.proofs.centre.Centre.submit_refusal.Goals as goal

pub returns : goal.returns
returns c = λ core represents.
    let is : Represents core c.self.inside.centre_state = subst (λ (s : CentreStateOf). Represents core s) (sym c.self.view_is) represents in
    c.submit_refusal.ensures
    ∙ ap (λ (s : Setup). octets_refuse (account_at c.args.account s.accounts) c.self.inside.centre_state.moment c.args.message.now) is.centre.setup_is
    ∙ ap (λ (moment : ℕ). octets_refuse (account_at c.args.account core.rows.setup.accounts) moment c.args.message.now) is.centre.moment_is
