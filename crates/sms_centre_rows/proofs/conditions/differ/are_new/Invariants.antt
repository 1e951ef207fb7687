use Rattle.std.proofs.Common.{◌≡◌, drop}
use Rattle.sms_centre_rows.specs.conditions.Differing.{differ_by}
use Rattle.sms_centre_rows.proofs.conditions.differ.are_new.Given as goal

abbrev pub invariant-loop-item : goal.invariant-loop-item
invariant-loop-item g l = differ_by g.T.PartialEq.eq l.seen.keys (drop l.item-index l.items) ≡ differ_by g.T.PartialEq.eq l.initial.seen.keys l.items
