use Rattle.std.proofs.Common.{◌≡◌}
use Rattle.std.specs.Vec.Iter.{into_iter_items}
use Rattle.sms_play.specs.CentreSide.{all_sent}
use Rattle.sms_player.proofs.playing.frames.send_down.Given as goal

abbrev pub invariant-loop-sent : goal.invariant-loop-sent
invariant-loop-sent l = all_sent (into_iter_items l.sent-iterator) l.bag ≡ all_sent (into_iter_items l.initial.sent-iterator) l.fn.bag
