use Rattle.std.proofs.Common.{length}
use Rattle.smsc_endpoint.proofs.first_frame.+behind_space.Given as goal

abbrev pub decreases-behind_space : goal.decreases-behind_space
decreases-behind_space l = length l.octets.now
