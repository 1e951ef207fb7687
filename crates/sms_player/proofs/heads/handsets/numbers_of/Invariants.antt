use Rattle.std.proofs.Common.{◌≡◌, ◌++◌, drop}
use Rattle.sms_play.specs.PlayState.{numbers_of}
use Rattle.sms_player.proofs.heads.handsets.numbers_of.Given as goal

abbrev pub invariant-loop-party : goal.invariant-loop-party
invariant-loop-party l = l.numbers.items ++ numbers_of (drop l.party-index l.parties) ≡ numbers_of l.parties
