use Rattle.sms_world.proofs.wrong_reports.GivenTwice.{refused as it_is}
use Rattle.sms_world.proofs.wrong_reports.wrong_references_are_refused.Goals as goal

pub returns : goal.returns
returns c = it_is
