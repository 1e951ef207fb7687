use Rattle.sms_world_model.specs.World.{empty}
use Rattle.sms_world_model.specs.WorldStep.{end}
use Rattle.sms_world_model.proofs.GroupSteps.{others_stay, is_passed, goes, group_ends, next_is_new}
use Rattle.sms_world_model.proofs.Places.{placed_run, placed_empty}
use Rattle.sms_world_model.proofs.groups_grow.Goals as goal

pub returns-clause-others_stay : goal.returns-clause-others_stay
returns-clause-others_stay c = others_stay

pub returns-clause-passed : goal.returns-clause-passed
returns-clause-passed c = is_passed

pub returns-clause-joins_group : goal.returns-clause-joins_group
returns-clause-joins_group c = goes

pub returns-clause-ends : goal.returns-clause-ends
returns-clause-ends c = group_ends

pub returns-clause-new : goal.returns-clause-new
returns-clause-new c items run = next_is_new (end empty items) (placed_run empty items placed_empty run)
