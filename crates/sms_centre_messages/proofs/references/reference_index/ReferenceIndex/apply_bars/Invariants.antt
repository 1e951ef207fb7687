use Rattle.std.proofs.Common.{◌-◌, length, take}
use Rattle.sms_centre_messages.specs.references.Moves.{HasBarRoom}
use Rattle.sms_centre_messages.specs.references.ReferenceIndex.{Barred}
use Rattle.sms_centre_messages.proofs.references.reference_index.ReferenceIndex.apply_bars.Given as goal

abbrev pub invariant-loop-change : goal.invariant-loop-change
invariant-loop-change l = HasBarRoom (length l.bars - l.change-index) l.self × Barred (take l.change-index l.bars) l.initial.self l.self
