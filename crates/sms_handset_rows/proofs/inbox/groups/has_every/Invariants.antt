use Rattle.std.proofs.Common.{◌≡◌, true}
use Rattle.sms_handset_rows.specs.inbox.Groups.{all_numbers}
use Rattle.sms_handset_rows.proofs.inbox.groups.has_every.Given as goal

abbrev pub invariant-loop-below : goal.invariant-loop-below
invariant-loop-below l = all_numbers l.below l.numbers ≡ true
