use Rattle.std.proofs.Common.{◌≡◌, ◌++◌}
use Rattle.sms_handset_draft.proofs.draft.push_all.Given as goal

abbrev pub invariant-loop-frame : goal.invariant-loop-frame
invariant-loop-frame l = l.out ++ l.frame-iterator.rest.items ≡ l.initial.out ++ l.initial.frame-iterator.rest.items
