use Rattle.std.proofs.Common.{◌≡◌, ◌-◌, None, length, drop}
use Rattle.sms_centre_rows.specs.messages.Messages.{message_key}
use Rattle.sms_rows.specs.table.Table.{newest_of}
use Rattle.sms_centre_rows.proofs.messages.newest.newest_change.Given as goal

abbrev pub invariant-loop-i : goal.invariant-loop-i
invariant-loop-i l = newest_of message_key l.key (drop (length l.changes - l.i) l.changes) ≡ None
