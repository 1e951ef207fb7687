use Rattle.std.proofs.Common.{◌≡◌, ◌++◌}
use Rattle.smsc_status.specs.Json.{elements}
use Rattle.smsc_status.proofs.Elements.{left}
use Rattle.smsc_status.proofs.json.put_elements.Given as goal

abbrev pub invariant-loop-i : goal.invariant-loop-i
invariant-loop-i g l = l.out ++ left g.T.Element.text l.list l.i ≡ l.fn.out ++ elements g.T.Element.text l.list
