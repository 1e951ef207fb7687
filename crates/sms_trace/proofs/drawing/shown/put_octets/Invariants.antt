use Rattle.std.proofs.Common.{◌≡◌, ◌++◌, drop}
use Rattle.sms_trace.specs.drawing.Shown.{shown_octets}
use Rattle.sms_trace.proofs.drawing.shown.put_octets.Given as goal

abbrev pub invariant-loop-octet : goal.invariant-loop-octet
invariant-loop-octet l = l.out ++ shown_octets (drop l.octet-index l.octets) ≡ l.fn.out ++ shown_octets l.octets
