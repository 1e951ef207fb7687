use Rattle.std.proofs.Common.{◌≡◌, ◌∷◌, ◌++◌, arith}
use Rattle.sms_rows.specs.table.Table.{Rises, applied, change_row}
use Rattle.sms_rows.specs.index.Shapes.{TreeOf}
use Rattle.sms_rows.specs.index.Picked.{before_all}
use Rattle.sms_rows.proofs.index.Sides.{of_ok, rooted, with_left, with_right, with_root}
use Rattle.sms_rows.proofs.index.tree.Tree.+changed.Goals as goal

pub returns-in_ok-left : goal.returns-in_ok-left
returns-in_ok-left g t c =
    let d = c.deref-fork.result.now in
    of_ok (λ (x : TreeOf _). x.rows ≡ c.in_ok-left.left.rows ++ d.row ∷ d.right.rows) (λ (x : TreeOf _). Rises g.T.Row.key c.args.self.now.rows → x.rows ≡ applied g.T.Row.key c.args.change.now c.args.self.now.rows) c.with_left.result
    (λ x is rises. with_left g.T.Row.key c.args.self.now.rows d.left.rows d.row d.right.rows (rooted c.self.inside.root c.in-Some.fork d c.args.self.now c.self.view_is c.in-Some.is c.deref-fork.ensures) rises
    c.args.change.now c.in_ok-left.left.rows x.rows (omega arith) c.in_ok-left.ensures is)
    c.with_left.ensures

pub returns-in_ok-right : goal.returns-in_ok-right
returns-in_ok-right g t c =
    let d = c.deref-fork.result.now in
    of_ok (λ (x : TreeOf _). x.rows ≡ d.left.rows ++ d.row ∷ c.in_ok-right.right.rows) (λ (x : TreeOf _). Rises g.T.Row.key c.args.self.now.rows → x.rows ≡ applied g.T.Row.key c.args.change.now c.args.self.now.rows) c.with_right.result
    (λ x is rises. with_right g.T.Row.key c.args.self.now.rows d.left.rows d.row d.right.rows (rooted c.self.inside.root c.in-Some.fork d c.args.self.now c.self.view_is c.in-Some.is c.deref-fork.ensures) rises
    c.args.change.now c.in_ok-right.right.rows x.rows (omega arith) c.in_ok-right.ensures is)
    c.with_right.ensures

pub returns-else-number-key : goal.returns-else-number-key
returns-else-number-key g t c =
    let d = c.deref-fork.result.now in
    of_ok (λ (x : TreeOf _). x.rows ≡ d.left.rows ++ before_all (change_row c.args.change.now) d.right.rows) (λ (x : TreeOf _). Rises g.T.Row.key c.args.self.now.rows → x.rows ≡ applied g.T.Row.key c.args.change.now c.args.self.now.rows) c.replaced-else-number-key.result
    (λ x is rises. with_root g.T.Row.key c.args.self.now.rows d.left.rows d.row d.right.rows (rooted c.self.inside.root c.in-Some.fork d c.args.self.now c.self.view_is c.in-Some.is c.deref-fork.ensures) rises
    c.args.change.now x.rows (omega arith) is)
    c.replaced-else-number-key.ensures
