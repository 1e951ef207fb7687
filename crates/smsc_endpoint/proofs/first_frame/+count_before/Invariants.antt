use Rattle.std.proofs.Common.{length}
use Rattle.smsc_endpoint.proofs.first_frame.+count_before.Given as goal

abbrev pub decreases-count_before : goal.decreases-count_before
decreases-count_before l = length l.octets.now
