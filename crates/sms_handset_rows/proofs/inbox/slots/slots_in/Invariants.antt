use Rattle.std.proofs.Common.{◌≡◌, ◌+◌, drop}
use Rattle.sms_handset_rows.specs.inbox.Slots.{slots_taken}
use Rattle.sms_handset_rows.proofs.inbox.slots.slots_in.Given as goal

abbrev pub invariant-loop-entry : goal.invariant-loop-entry
invariant-loop-entry l = l.taken + slots_taken (drop l.entry-index l.entries) ≡ slots_taken l.entries
