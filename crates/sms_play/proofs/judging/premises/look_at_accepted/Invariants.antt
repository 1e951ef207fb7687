use Rattle.std.proofs.Common.{List, take}
use Rattle.sms_play.specs.Premises.{pairs_of}
use Rattle.sms_script.specs.declared.report.rows.GivenRow.{GivenRow}
use Rattle.sms_world_model.specs.World.{Accepted, Allocation}
use Rattle.sms_play.specs.judging.Watching.{Watches}
use Rattle.sms_play.proofs.judging.premises.look_at_accepted.Given as goal

abbrev pub invariant-loop-row : goal.invariant-loop-row
invariant-loop-row l =
    (given : List GivenRow) (down : List Allocation) (accepted : List Accepted) → Watches given down accepted l.fn.watch → Watches given down (pairs_of accepted (take l.row-index l.rows)) l.watch
