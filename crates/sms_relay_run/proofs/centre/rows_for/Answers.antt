use Rattle.std.proofs.Common.{sym, ap, ◌∙◌, subst}
use Rattle.sms_centre_spec.specs.SoundRows.{IsSetup, first_rows}
use Rattle.sms_centre_spec.specs.declared.setup.Setup.{Setup}
use Rattle.sms_relay_run.specs.relay_laws.Relaying.{setup_for}
use Rattle.sms_relay_run.proofs.centre.rows_for.Goals as goal

pub returns-clause-rows : goal.returns-clause-rows
returns-clause-rows c = c.first_rows.ensures.rows ∙ ap (λ (s : Setup). first_rows s) c.setup_for.ensures

pub returns-clause-sound : goal.returns-clause-sound
returns-clause-sound c =
    let setup : IsSetup (setup_for c.args.centre c.args.now) = record { centre = c.requires.centre; start = c.requires.now; accounts = λ a among. absurd among } in
    c.first_rows.ensures.sound (subst (λ (s : Setup). IsSetup s) (sym c.setup_for.ensures) setup)
