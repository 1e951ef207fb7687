use Rattle.std.proofs.Common.{◌≡◌, ◌++◌, drop}
use Rattle.sms_handset_rows.specs.outbox.References.{held_by_notices}
use Rattle.sms_handset_rows.proofs.outbox.references.push_noticed.Given as goal

abbrev pub invariant-loop-notice : goal.invariant-loop-notice
invariant-loop-notice l = l.held ++ held_by_notices (drop l.notice-index l.notices) ≡ l.initial.held ++ held_by_notices l.notices
