use Rattle.std.proofs.Common.{◌≡◌, ◌++◌, drop}
use Rattle.sms_play.specs.HandsetSide.{memories_given}
use Rattle.sms_player_handset.proofs.notes.note_memories.Given as goal

abbrev pub invariant-loop-frame : goal.invariant-loop-frame
invariant-loop-frame l = l.given ++ memories_given l.handset l.moment l.next (drop l.frame-index l.frames) ≡ l.fn.given ++ memories_given l.handset l.moment l.next l.frames
