use Rattle.std.proofs.Common.{arith}
use Rattle.sms_rows.proofs.index.Bounding.{fork_bounds}
use Rattle.sms_rows.proofs.index.tree.Tree.fork.Goals as goal

pub invariant_of-result : goal.invariant_of-result
invariant_of-result g c =
    fork_bounds g.T.Dated.moment c.args.left c.args.row c.args.right _ _ _ c.in_ok-fork.fork.value c.in_ok-fork.ensures.ok (omega arith) (omega arith) c.earliest.ensures.bounds c.earliest-2.ensures.bounds
