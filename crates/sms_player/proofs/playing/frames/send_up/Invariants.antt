use Rattle.std.proofs.Common.{◌≡◌}
use Rattle.std.specs.Vec.Iter.{into_iter_items}
use Rattle.sms_play.specs.HandsetSide.{all_sent}
use Rattle.sms_player.proofs.playing.frames.send_up.Given as goal

abbrev pub invariant-loop-frame : goal.invariant-loop-frame
invariant-loop-frame l = all_sent l.handset (into_iter_items l.frame-iterator) l.bag ≡ all_sent l.handset (into_iter_items l.initial.frame-iterator) l.fn.bag
