use Rattle.sms_base.proofs.UtcClocks.{stamp_is_written}
use Rattle.sms_base.proofs.laws.stamp_is_written.Goals as goal

pub returns : goal.returns
returns c = stamp_is_written
