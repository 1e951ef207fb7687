use Rattle.sms_centre_spec.specs.CentreEvent.{recovered}
use Rattle.sms_centre.proofs.ActsFirst.{setup_sound}
use Rattle.sms_centre.proofs.centre.Centre.recover.Goals as goal

pub of-requires : goal.of-requires
of-requires c = setup_sound (recovered c.args.rows c.args.handsets.now c.args.sessions.rows) c.in_ok-centre_state.centre_state c.in_ok-centre_state.ensures.centre_state
