use Rattle.sms_centre_spec.specs.CentreEvent.{started}
use Rattle.sms_centre.proofs.ActsFirst.{setup_sound}
use Rattle.sms_centre.proofs.centre.Centre.start.Goals as goal

pub of-requires : goal.of-requires
of-requires c = setup_sound (started c.args.rows c.args.handsets.now c.args.sessions.rows) c.in_ok-centre_state.centre_state c.in_ok-centre_state.ensures.centre_state
