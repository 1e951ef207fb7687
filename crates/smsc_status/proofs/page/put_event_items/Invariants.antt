use Rattle.std.proofs.Common.{◌≡◌, ◌++◌, take, string_bytes}
use Rattle.std.specs.Prelude.{flat_map, reverse}
use Rattle.smsc_status.specs.Page.{event_item}
use Rattle.smsc_status.proofs.page.put_event_items.Given as goal

abbrev pub invariant-loop-i : goal.invariant-loop-i
invariant-loop-i l = l.out ≡ l.fn.out ++ flat_map (λ event. event_item (string_bytes event)) (take l.i (reverse l.events))
