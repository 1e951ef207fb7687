use Rattle.std.proofs.Common.{◌≡◌, drop}
use Rattle.sms_handset_rows.specs.declared.inbox.last_accepted.LastAccepted.{LastAccepted}
use Rattle.sms_handset_rows.specs.inbox.InboxTest.{each_passes, is_last}
use Rattle.sms_handset_rows.proofs.inbox.sound_inbox.are_last.Given as goal

abbrev pub invariant-loop-last : goal.invariant-loop-last
invariant-loop-last l = each_passes (λ (k : LastAccepted). is_last k) (drop l.last-index l.rows) ≡ each_passes (λ (k : LastAccepted). is_last k) l.rows
