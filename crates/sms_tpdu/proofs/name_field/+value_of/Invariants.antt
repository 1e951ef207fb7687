use Rattle.std.proofs.Common.{length}
use Rattle.sms_tpdu.proofs.name_field.+value_of.Given as goal

abbrev pub decreases-value_of : goal.decreases-value_of
decreases-value_of l = length l.octets.now
