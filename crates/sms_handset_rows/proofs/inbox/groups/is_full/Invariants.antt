use Rattle.std.proofs.Common.{◌≡◌, ◌++◌, ◌∷◌, [], true}
use Rattle.sms_handset_rows.specs.inbox.Groups.{all_numbers, part_numbers}
use Rattle.sms_handset_rows.proofs.inbox.groups.is_full.Given as goal

abbrev pub invariant-loop-below : goal.invariant-loop-below
invariant-loop-below l = all_numbers l.below (part_numbers (l.members ++ l.part ∷ [])) ≡ true
