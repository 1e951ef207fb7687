use Rattle.std.proofs.Common.{◌≡◌, ◌++◌, drop}
use Rattle.sms_player_handset.specs.Noting.{accepted_of, each}
use Rattle.sms_player_handset.proofs.notes.note_accepted.Given as goal

abbrev pub invariant-loop-change : goal.invariant-loop-change
invariant-loop-change l = l.accepted ++ each (accepted_of l.handset) (drop l.change-index l.changes) ≡ l.fn.accepted ++ each (accepted_of l.handset) l.changes
