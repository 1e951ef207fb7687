use Rattle.sms_control.proofs.LinkLaws.{ends_follow_begins}
use Rattle.sms_control.proofs.laws.one_begun_at_a_time.Goals as goal

pub returns : goal.returns
returns c = ends_follow_begins
