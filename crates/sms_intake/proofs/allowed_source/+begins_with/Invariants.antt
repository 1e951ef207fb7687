use Rattle.std.proofs.Common.{length}
use Rattle.sms_intake.proofs.allowed_source.+begins_with.Given as goal

abbrev pub decreases-begins_with : goal.decreases-begins_with
decreases-begins_with l = length l.digits.now
