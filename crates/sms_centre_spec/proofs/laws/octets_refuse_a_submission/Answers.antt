use Rattle.sms_centre_spec.proofs.RefusedByOctets.{refused_by_octets}
use Rattle.sms_centre_spec.proofs.laws.octets_refuse_a_submission.Goals as goal

pub returns : goal.returns
returns c = refused_by_octets
