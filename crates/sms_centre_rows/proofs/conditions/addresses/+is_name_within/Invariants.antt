use Rattle.std.proofs.Common.{length}
use Rattle.sms_centre_rows.proofs.conditions.addresses.+is_name_within.Given as goal

abbrev pub decreases-is_name_within : goal.decreases-is_name_within
decreases-is_name_within l = length l.characters.now
