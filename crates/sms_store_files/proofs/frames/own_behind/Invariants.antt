use Rattle.std.proofs.Common.{◌≡◌}
use Rattle.sms_store_files.specs.Frames.{own_frames}
use Rattle.sms_store_files.proofs.frames.own_behind.Given as goal

abbrev pub invariant-loop-n : goal.invariant-loop-n
invariant-loop-n l = l.own.items ≡ own_frames l.log l.taken l.n
