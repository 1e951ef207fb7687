use Rattle.std.proofs.Common.{refl, inl}
use Rattle.smsc_loop.specs.Phases.{Serves}
use Rattle.smsc_loop.proofs.Went.{if_refused}
use Rattle.smsc_loop.proofs.Joins.{did_none, did_refused}
use Rattle.smsc_loop.proofs.serving.attend.Goals as goal

pub returns-then-is_some-clause-did : goal.returns-then-is_some-clause-did
returns-then-is_some-clause-did g c = did_none g.G.Endpoint.does _ _ _ _ _

pub returns-then-has_turn-clause-did : goal.returns-then-has_turn-clause-did
returns-then-has_turn-clause-did g c = did_none g.G.Endpoint.does _ _ _ _ _

pub returns-in_err-end-clause-did : goal.returns-in_err-end-clause-did
returns-in_err-end-clause-did g c = did_refused g.G.Endpoint.does _ c.from_residual.result c.from_residual.ensures.1 _ _ Serves _ _ _ (c.in_err-end.ensures.did _)

pub returns-in_err-end-clause-stays : goal.returns-in_err-end-clause-stays
returns-in_err-end-clause-stays g c = if_refused _ _ c.from_residual.result c.from_residual.ensures.1

pub returns-then-is_empty-clause-did : goal.returns-then-is_empty-clause-did
returns-then-is_empty-clause-did g c = c.in_ok-end.ensures.did _

pub returns-then-is_empty-clause-stays : goal.returns-then-is_empty-clause-stays
returns-then-is_empty-clause-stays g c = c.in_ok-end.ensures.stays

pub returns-else-eq-clause-did : goal.returns-else-eq-clause-did
returns-else-eq-clause-did g c = c.in_ok-end.ensures.did _

pub returns-else-eq-clause-stays : goal.returns-else-eq-clause-stays
returns-else-eq-clause-stays g c = c.in_ok-end.ensures.stays

pub returns-then-is_some-clause-stays : goal.returns-then-is_some-clause-stays
returns-then-is_some-clause-stays g c = inl refl

pub returns-then-has_turn-clause-stays : goal.returns-then-has_turn-clause-stays
returns-then-has_turn-clause-stays g c = inl refl
