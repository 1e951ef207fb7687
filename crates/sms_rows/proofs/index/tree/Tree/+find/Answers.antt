use Rattle.std.proofs.Common.{arith}
use Rattle.sms_rows.proofs.index.Sides.{find_here, find_left, find_right, rooted}
use Rattle.sms_rows.proofs.index.tree.Tree.+find.Goals as goal

pub returns-then-number : goal.returns-then-number
returns-then-number g t c = λ rises.
    let d = c.deref-fork.result.now in
    find_left g.T.Row.key c.args.self.now.rows d.left.rows d.row d.right.rows (rooted c.self.inside.root c.in-Some.fork d c.args.self.now c.self.view_is c.in-Some.is c.deref-fork.ensures) rises
    c.args.key c.find.result (omega arith) c.find.ensures

pub returns-then-number-2 : goal.returns-then-number-2
returns-then-number-2 g t c = λ rises.
    let d = c.deref-fork.result.now in
    find_right g.T.Row.key c.args.self.now.rows d.left.rows d.row d.right.rows (rooted c.self.inside.root c.in-Some.fork d c.args.self.now c.self.view_is c.in-Some.is c.deref-fork.ensures) rises
    c.args.key c.find-then-number-2.result (omega arith) c.find-then-number-2.ensures

pub returns-else-number-2 : goal.returns-else-number-2
returns-else-number-2 g t c = λ rises.
    let d = c.deref-fork.result.now in
    find_here g.T.Row.key c.args.self.now.rows d.left.rows d.row d.right.rows (rooted c.self.inside.root c.in-Some.fork d c.args.self.now c.self.view_is c.in-Some.is c.deref-fork.ensures) rises
    c.args.key (omega arith)
