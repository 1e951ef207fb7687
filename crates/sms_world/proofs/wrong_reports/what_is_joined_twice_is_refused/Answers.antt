use Rattle.sms_world.proofs.wrong_reports.JoinedTwice.{refused as it_is}
use Rattle.sms_world.proofs.wrong_reports.what_is_joined_twice_is_refused.Goals as goal

pub returns : goal.returns
returns c = it_is
