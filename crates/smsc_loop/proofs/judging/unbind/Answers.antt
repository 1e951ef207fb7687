use Rattle.std.proofs.Common.{Bool, Some, None, ◌||◌, refl, subst, ◌∙◌}
use Rattle.smsc_loop.specs.Duties.{Stood}
use Rattle.smsc_loop.proofs.Duties.{unbinds_as}
use Rattle.smsc_loop.proofs.Went.{match_refused}
use Rattle.smsc_loop.proofs.judging.unbind.Goals as goal

pub returns-in_err-is_asked-in-None : goal.returns-in_err-is_asked-in-None
returns-in_err-is_asked-in-None g c =
    unbinds_as g.G.Endpoint.does g.G.Endpoint.owing c.args.leaving None _ _ _ _ _ c.from_residual.result c.in-None.is
    (match_refused _ _ _ c.from_residual.result c.from_residual.ensures.1 (c.in_err-is_asked-in-None.ensures.asked_to_leave, refl))

pub stand-requires : goal.stand-requires
stand-requires g c = c.requires ∙ c.in-None.is

pub returns-in-Some : goal.returns-in-Some
returns-in-Some g c = unbinds_as g.G.Endpoint.does g.G.Endpoint.owing c.args.leaving (Some c.in-Some.field-0) _ _ _ _ _ _ c.in-Some.is (refl, refl, refl)

pub returns-in_ok-is_asked-in-None : goal.returns-in_ok-is_asked-in-None
returns-in_ok-is_asked-in-None g c =
    unbinds_as g.G.Endpoint.does g.G.Endpoint.owing c.args.leaving None _ _ _ _ _ _ c.in-None.is (
      c.in_ok-is_asked-in-None.is_asked,
      c.in_ok-is_asked-in-None.ensures.asked_to_leave,
      subst (λ (b : Bool). Stood (c.in_ok-is_asked-in-None.is_asked || b) c.args.now c.args.patience.now c.stand.new.patience c.stand.result) c.owes-owes.ensures.owing c.stand.ensures,
    )
