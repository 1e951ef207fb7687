use Rattle.std.proofs.Common.{length}
use Rattle.sms_player.proofs.heads.judging.+are_handsets.Given as goal

abbrev pub decreases-are_handsets : goal.decreases-are_handsets
decreases-are_handsets l = length l.handsets.now
