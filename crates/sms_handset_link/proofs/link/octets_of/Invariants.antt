use Rattle.std.proofs.Common.{◌≡◌, ◌++◌, drop}
use Rattle.sms_handset_link.specs.Run.{on_link}
use Rattle.sms_handset_link.proofs.link.octets_of.Given as goal

abbrev pub invariant-loop-frame : goal.invariant-loop-frame
invariant-loop-frame l = l.out ++ on_link (drop l.frame-index l.frames) ≡ on_link l.frames
