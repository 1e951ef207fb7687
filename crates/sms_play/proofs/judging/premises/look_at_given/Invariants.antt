use Rattle.std.proofs.Common.{◌≡◌, List, ◌++◌, drop, take}
use Rattle.std.specs.Prelude.{◌&&◌}
use Rattle.sms_play.specs.PlayState.{PlayState}
use Rattle.sms_play.specs.Premises.{are_fresh, newest_first, part_allocations}
use Rattle.sms_script.specs.declared.report.rows.GivenRow.{GivenRow}
use Rattle.sms_world_model.specs.World.{Accepted, Allocation}
use Rattle.sms_play.specs.judging.Watching.{Watches}
use Rattle.sms_play.proofs.judging.premises.look_at_given.Given as goal

abbrev pub invariant-loop-row : goal.invariant-loop-row
invariant-loop-row g l =
    (c : PlayState) (given : List GivenRow) (down : List Allocation) (accepted : List Accepted) → g.S.Scene.represents l.scene c → Watches given down accepted l.fn.watch
    → ((l.fresh && are_fresh (part_allocations c.centre.rows.parts (drop l.row-index l.rows)) (newest_first down (part_allocations c.centre.rows.parts (take l.row-index l.rows))) accepted)
    ≡ are_fresh (part_allocations c.centre.rows.parts l.rows) down accepted)
    × Watches (given ++ take l.row-index l.rows) (newest_first down (part_allocations c.centre.rows.parts (take l.row-index l.rows))) accepted l.watch
