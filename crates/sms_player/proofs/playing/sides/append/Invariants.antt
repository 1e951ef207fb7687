use Rattle.std.proofs.Common.{◌≡◌, ◌++◌, drop}
use Rattle.sms_player.proofs.playing.sides.append.Given as goal

abbrev pub invariant-loop-delivery : goal.invariant-loop-delivery
invariant-loop-delivery l = l.waiting.items ++ drop l.delivery-index l.more ≡ l.fn.waiting.items ++ l.more
