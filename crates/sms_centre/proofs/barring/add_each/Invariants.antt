use Rattle.std.proofs.Common.{◌≡◌, ◌++◌, drop}
use Rattle.sms_centre_spec.specs.Draft.{Core}
use Rattle.sms_centre_spec.specs.forgetting.Forget.{claims_by}
use Rattle.sms_centre.specs.state.CentreState.{Represents as StateRepresents}
use Rattle.sms_centre.proofs.barring.add_each.Given as goal

abbrev pub invariant-loop-id : goal.invariant-loop-id
invariant-loop-id l =
    (c : Core) → StateRepresents c l.state
    → l.claims.items ++ claims_by (drop l.id-index l.ids) c.rows.messages c.rows.parts ≡ l.initial.claims.items ++ claims_by l.ids c.rows.messages c.rows.parts
