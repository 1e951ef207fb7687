use Rattle.sms_centre_events.proofs.Fits.{pdu_is_one}
use Rattle.sms_centre_events.proofs.TextUnits.{pdu_units}
use Rattle.sms_centre_events.proofs.submitting.submit_by.Goals as goal

pub submission_received-requires-clause-submission : goal.submission_received-requires-clause-submission
submission_received-requires-clause-submission c =
    pdu_is_one c.args.account.now c.now-now.result c.args.message.now c.in-Ok.submission c.requires.address c.seconds-seconds.ensures.range c.in-Ok.ensures

pub submission_received-requires-clause-units : goal.submission_received-requires-clause-units
submission_received-requires-clause-units c = pdu_units c.args.account.now c.now-now.result c.args.message.now c.in-Ok.submission c.in-Ok.ensures
