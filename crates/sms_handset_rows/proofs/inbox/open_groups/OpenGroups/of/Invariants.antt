use Rattle.std.proofs.Common.{take}
use Rattle.sms_handset_rows.specs.inbox.OpenIndex.{Indexes}
use Rattle.sms_handset_rows.proofs.inbox.open_groups.OpenGroups.of.Given as goal

abbrev pub invariant-loop-entry : goal.invariant-loop-entry
invariant-loop-entry l = Indexes l.groups (take l.entry-index l.entries)
