use Rattle.sms_base.proofs.UtcClocks.{clock_represents}
use Rattle.sms_base.proofs.laws.clock_of_a_moment_represents_it.Goals as goal

pub returns : goal.returns
returns c = clock_represents
