use Rattle.std.proofs.Common.{List, sym, subst, ◌∙◌, ap}
use Rattle.sms_centre_spec.specs.SoundRows.{IsSetup, first_rows}
use Rattle.sms_centre_spec.specs.declared.setup.Setup.{Setup}
use Rattle.sms_intake.specs.declared.submission.CentreAccount.{CentreAccount}
use Rattle.sms_play.specs.PlayedEvent.{sessions_from}
use Rattle.sms_player.proofs.centre.Plans.{if_ok, started_as}
use Rattle.sms_player.proofs.centre.starting.with_first_centre.Goals as goal

pub lend_started-requires-clause-sound : goal.lend_started-requires-clause-sound
lend_started-requires-clause-sound g c = c.first_rows-rows.ensures.sound (subst IsSetup (sym c.in_ok-copy_of_setup.ensures) c.requires.setup)

pub lend_started-requires-clause-work : goal.lend_started-requires-clause-work
lend_started-requires-clause-work g c = λ lent is.
    c.requires.work lent (started_as _ _ c.args.handsets.now _ _ lent.now (c.first_rows-rows.ensures.rows ∙ ap (λ (s : Setup). first_rows s) c.in_ok-copy_of_setup.ensures) (c.in_ok-sessions.ensures.sessions ∙ ap (λ (accounts : List CentreAccount). sessions_from 0 accounts) c.as_slice.ensures) is)

pub returns : goal.returns
returns g c = if_ok c.lend_started.result _ _
    (λ given l. (l.0, l.1, started_as _ _ c.args.handsets.now _ _ l.0 (c.first_rows-rows.ensures.rows ∙ ap (λ (s : Setup). first_rows s) c.in_ok-copy_of_setup.ensures) (c.in_ok-sessions.ensures.sessions ∙ ap (λ (accounts : List CentreAccount). sessions_from 0 accounts) c.as_slice.ensures) l.2, l.3))
    c.lend_started.ensures
