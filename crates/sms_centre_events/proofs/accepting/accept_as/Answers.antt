use Rattle.sms_centre_events.proofs.Accepted.{whole_units}
use Rattle.sms_centre_events.proofs.accepting.accept_as.Goals as goal

pub accept_whole-requires-clause-units : goal.accept_whole-requires-clause-units
accept_whole-requires-clause-units c = whole_units c.args.submission.now.text c.in-Whole.content c.in-Whole.is c.requires.units
