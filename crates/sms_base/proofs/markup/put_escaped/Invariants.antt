use Rattle.std.proofs.Common.{◌≡◌, ◌++◌, drop}
use Rattle.sms_base.specs.Markup.{escaped}
use Rattle.sms_base.proofs.markup.put_escaped.Given as goal

abbrev pub invariant-loop-octet : goal.invariant-loop-octet
invariant-loop-octet l = l.out ++ escaped (drop l.octet-index l.text) ≡ l.fn.out ++ escaped l.text
