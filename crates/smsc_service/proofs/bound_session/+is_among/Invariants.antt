use Rattle.std.proofs.Common.{length}
use Rattle.smsc_service.proofs.bound_session.+is_among.Given as goal

abbrev pub decreases-is_among : goal.decreases-is_among
decreases-is_among l = length l.handsets.now
