use Rattle.std.proofs.Common.{◌≡◌, drop}
use Rattle.sms_handset_rows.specs.inbox.InboxTest.{is_apart}
use Rattle.sms_handset_rows.proofs.inbox.sound_inbox.is_apart.Given as goal

abbrev pub invariant-loop-entry : goal.invariant-loop-entry
invariant-loop-entry l = is_apart l.number (drop l.entry-index l.entries) ≡ is_apart l.number l.entries
