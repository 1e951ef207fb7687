use Rattle.std.proofs.Common.{◌≡◌, drop}
use Rattle.sms_play.specs.Setups.{has_handset}
use Rattle.sms_player.proofs.heads.judging.has_handset.Given as goal

abbrev pub invariant-loop-handset : goal.invariant-loop-handset
invariant-loop-handset l = has_handset l.number (drop l.handset-index l.handsets) ≡ has_handset l.number l.handsets
