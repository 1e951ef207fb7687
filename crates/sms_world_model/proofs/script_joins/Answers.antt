use Rattle.std.proofs.Common.{subst}
use Rattle.sms_world_model.specs.World.{World, empty}
use Rattle.sms_world_model.specs.Agreement.{JoinedSubmitted, SplitsWhole, SplitsJoined}
use Rattle.sms_world_model.proofs.Ends.{end_joined, end_splits, end_contents}
use Rattle.sms_world_model.proofs.Scripts.{script_fresh}
use Rattle.sms_world_model.proofs.script_joins.Goals as goal

pub returns-clause-joined : goal.returns-clause-joined
returns-clause-joined c events w plays =
    let x = script_fresh empty w events plays in
    subst (λ (v : World). JoinedSubmitted v) x.1.1 (end_joined x.0 x.1.0 x.1.2 x.1.3)

pub returns-clause-split : goal.returns-clause-split
returns-clause-split c events w plays =
    let x = script_fresh empty w events plays in
    subst (λ (v : World). SplitsWhole v) x.1.1 (end_splits x.0 x.1.0 x.1.2 x.1.3)

pub returns-clause-content : goal.returns-clause-content
returns-clause-content c events w plays =
    let x = script_fresh empty w events plays in
    subst (λ (v : World). SplitsJoined v) x.1.1 (end_contents x.0 x.1.0 x.1.2 x.1.3)
