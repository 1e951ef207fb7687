use Rattle.std.proofs.Common.{◌≡◌, ◌++◌, ◌∷◌, [], Some}
use Rattle.sms_handset_rows.specs.inbox.Groups.{parts_to}
use Rattle.sms_handset_rows.proofs.inbox.joining.parts_in.Given as goal

abbrev pub invariant-loop-below : goal.invariant-loop-below
invariant-loop-below l = parts_to l.below (l.members ++ l.part ∷ []) ≡ Some l.parts
