use Rattle.std.proofs.Common.{◌≡◌, drop}
use Rattle.sms_store_files.specs.Judging.{has_one_that_begins}
use Rattle.sms_store_files.proofs.judging.has_one_that_begins.Given as goal

abbrev pub invariant-loop-frame : goal.invariant-loop-frame
invariant-loop-frame l = has_one_that_begins l.taken (drop l.frame-index l.own) ≡ has_one_that_begins l.taken l.own
