use Rattle.std.proofs.Common.{◌≤◌, ◌∙◌, ap, length, List, sym, subst}
use Rattle.sms_intake.specs.declared.submission.CentreAccount.{CentreAccount}
use Rattle.sms_play.specs.Setups.{accounts_of}
use Rattle.sms_script.specs.declared.setup.AccountSetup.{AccountSetup}
use Rattle.sms_player.proofs.heads.Beginnings.{few_accounts, playable, setup_made}
use Rattle.sms_player.proofs.heads.centre.centre_setup.Goals as goal

pub centre_of-centre-requires : goal.centre_of-centre-requires
centre_of-centre-requires c = (playable c.args.setup.now c.requires.setup).centre

pub returns-clause-sound : goal.returns-clause-sound
returns-clause-sound c =
    setup_made c.args.setup.now c.requires.setup c.centre_of-centre.result c.args.start c.in_ok-accounts.accounts c.centre_of-centre.ensures.centre c.requires.start
    (c.in_ok-accounts.ensures ∙ ap (λ (xs : List AccountSetup). accounts_of xs) c.as_slice.ensures)

pub returns-clause-few : goal.returns-clause-few
returns-clause-few c =
    subst (λ (accounts : List CentreAccount). length accounts ≤ 32) (sym (c.in_ok-accounts.ensures ∙ ap (λ (xs : List AccountSetup). accounts_of xs) c.as_slice.ensures)) (few_accounts c.args.setup.now c.requires.setup)
