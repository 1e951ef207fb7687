use Rattle.std.proofs.Common.{◌≡◌, ◌++◌}
use Rattle.sms_centre_rows.specs.waiting.Links.{to_handset}
use Rattle.sms_centre_queue.proofs.queues.draft.push_sent.Given as goal

abbrev pub invariant-loop-frame : goal.invariant-loop-frame
invariant-loop-frame l = l.out ++ to_handset l.number l.frame-iterator.rest.items ≡ l.initial.out ++ to_handset l.number l.initial.frame-iterator.rest.items
