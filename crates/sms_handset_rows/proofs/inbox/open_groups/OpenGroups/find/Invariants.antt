use Rattle.std.proofs.Common.{◌≡◌}
use Rattle.sms_handset_rows.specs.inbox.OpenIndex.{find_open}
use Rattle.sms_handset_rows.proofs.inbox.open_groups.OpenGroups.find.Given as goal

abbrev pub invariant-loop-open : goal.invariant-loop-open
invariant-loop-open l = find_open l.group l.open-iterator ≡ find_open l.group l.self.groups
