use Rattle.std.proofs.Common.{length}
use Rattle.smsc_endpoint.proofs.bind_name.+put.Given as goal

abbrev pub decreases-put : goal.decreases-put
decreases-put l = length l.octets.now
