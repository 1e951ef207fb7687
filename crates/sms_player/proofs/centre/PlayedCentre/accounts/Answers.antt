use Rattle.std.proofs.Common.{◌≤◌, ◌∙◌, ap, length, List, sym, subst}
use Rattle.sms_centre_spec.specs.declared.rows.Rows.{Rows}
use Rattle.sms_centre_spec.specs.declared.setup.Setup.{Setup}
use Rattle.sms_intake.specs.declared.submission.CentreAccount.{CentreAccount}
use Rattle.sms_player.proofs.centre.PlayedCentre.accounts.Goals as goal

pub returns-clause-few : goal.returns-clause-few
returns-clause-few c = let was = c.self.invariant.0.1 in
    subst (λ (accounts : List CentreAccount). length accounts ≤ 32) (sym (c.as_slice.ensures ∙ ap (λ (s : Setup). s.accounts) c.setup.ensures ∙ ap (λ (r : Rows). r.setup.accounts) was.same_rows)) was.accounts
