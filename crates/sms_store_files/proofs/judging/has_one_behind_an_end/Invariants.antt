use Rattle.std.proofs.Common.{◌≡◌, ◌&&◌, ◌||◌, drop, length}
use Rattle.std.specs.Prelude.{nat_lt}
use Rattle.sms_store_files.specs.Judging.{has_one_behind_an_end}
use Rattle.sms_store_files.proofs.judging.has_one_behind_an_end.Given as goal

abbrev pub invariant-loop-frame : goal.invariant-loop-frame
invariant-loop-frame l =
    let later = drop l.frame-index l.own in
    ((l.has_end && nat_lt 0 (length later)) || has_one_behind_an_end later) ≡ has_one_behind_an_end l.own
