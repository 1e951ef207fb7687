use Rattle.std.proofs.Common.{◌≡◌, ◌++◌, drop}
use Rattle.sms_player_handset.specs.Noting.{each, joined_of}
use Rattle.sms_player_handset.proofs.notes.note_joined.Given as goal

abbrev pub invariant-loop-change : goal.invariant-loop-change
invariant-loop-change l = l.joined ++ each (joined_of l.handset) (drop l.change-index l.changes) ≡ l.fn.joined ++ each (joined_of l.handset) l.changes
