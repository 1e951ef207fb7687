use Rattle.std.proofs.Common.{◌≡◌, ◌++◌, drop}
use Rattle.sms_script.specs.report.ReportText.{lines, frame_line}
use Rattle.sms_script.proofs.report.put_bag.Given as goal

abbrev pub invariant-loop-frame : goal.invariant-loop-frame
invariant-loop-frame l = l.out ++ lines frame_line (drop l.frame-index l.frames) ≡ l.fn.out ++ lines frame_line l.frames
