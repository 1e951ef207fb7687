use Rattle.std.proofs.Common.{refl, ap, arith, ◌∙◌}
use Rattle.sms_store_sql.proofs.schema.Walking.{more_alike}
use Rattle.sms_store_sql.proofs.schema.plan.are_planned.Goals as goal

pub loop-i-preserved : goal.loop-i-preserved
loop-i-preserved g c =
    let same = c.if-not-is.ensures.yes refl ∙ ap g.P.Plan.planned c.index-plans-i.is in
    more_alike g.P.Plan.planned c.args.made.now c.args.plans.now c.loop-i.i c.index-made-i.result c.index-plans-i.result (omega arith) (omega arith) c.index-made-i.is same c.loop-i.invariant
