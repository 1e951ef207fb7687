use Rattle.std.proofs.Common.{◌≡◌, true}
use Rattle.sms_centre_rows.specs.messages.PartEntries.{done_to, rows_now}
use Rattle.sms_centre_messages.proofs.message_index.parts_draft.PartsDraft.all_done.Given as goal

abbrev pub invariant-loop-behind : goal.invariant-loop-behind
invariant-loop-behind l = done_to l.id l.behind (rows_now l.self) ≡ true
