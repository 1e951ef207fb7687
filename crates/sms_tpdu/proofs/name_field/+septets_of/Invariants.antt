use Rattle.std.proofs.Common.{length}
use Rattle.sms_tpdu.proofs.name_field.+septets_of.Given as goal

abbrev pub decreases-septets_of : goal.decreases-septets_of
decreases-septets_of l = length l.name.now
