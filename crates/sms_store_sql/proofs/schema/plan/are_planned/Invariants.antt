use Rattle.std.proofs.Common.{◌≡◌, map, take}
use Rattle.sms_store_sql.proofs.schema.plan.are_planned.Given as goal

abbrev pub invariant-loop-i : goal.invariant-loop-i
invariant-loop-i g l = take l.i l.made ≡ take l.i (map g.P.Plan.planned l.plans)
