use Rattle.std.proofs.Common.{drop}
use Rattle.sms_centre_spec.specs.Draft.{Core}
use Rattle.sms_centre.specs.Barring.{ArePut}
use Rattle.sms_centre.specs.state.CentreState.{Represents as StateRepresents}
use Rattle.sms_centre.proofs.barring.keep_each.Given as goal

abbrev pub invariant-loop-claim : goal.invariant-loop-claim
invariant-loop-claim l =
    (c : Core) → StateRepresents c l.state → ArePut c.rows.bars l.claims l.claims l.initial.bars → ArePut c.rows.bars l.claims (drop l.claim-index l.claims) l.bars
