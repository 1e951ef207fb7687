use Rattle.std.proofs.Common.{inl, inr}
use Rattle.smsc_loop.proofs.Drops.{owns_both, owns_none}
use Rattle.smsc_loop.proofs.leaving.clear.Goals as goal

pub loop-init : goal.loop-init
loop-init g c = owns_none _

pub loop-preserved : goal.loop-preserved
loop-preserved g c = owns_both _ _ _ c.loop.invariant c.put_again.ensures

pub returns-then-is_over-clause-owns : goal.returns-then-is_over-clause-owns
returns-then-is_over-clause-owns g c = c.loop.invariant

pub returns-then-is_over-clause-cleared : goal.returns-then-is_over-clause-cleared
returns-then-is_over-clause-cleared g c = inl (c.is_over.ensures.over c.if-is_over.true)

pub returns-then-is_cleared-clause-owns : goal.returns-then-is_cleared-clause-owns
returns-then-is_cleared-clause-owns g c = c.loop.invariant

pub returns-then-is_cleared-clause-cleared : goal.returns-then-is_cleared-clause-cleared
returns-then-is_cleared-clause-cleared g c = inr (c.is_cleared.ensures c.if-is_cleared.true)

pub returns-clause-owns : goal.returns-clause-owns
returns-clause-owns g c = c.loop.invariant
