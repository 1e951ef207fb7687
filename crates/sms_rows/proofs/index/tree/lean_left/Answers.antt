use Rattle.std.proofs.Common.{◌≡◌, ◌∷◌, ◌++◌, ◌∙◌, ap}
use Rattle.sms_rows.specs.index.Shapes.{TreeOf}
use Rattle.sms_rows.specs.index.Trees.{forked}
use Rattle.sms_rows.proofs.index.Sides.{leans_left, of_ok, rooted}
use Rattle.sms_rows.proofs.index.tree.lean_left.Goals as goal

pub returns : goal.returns
returns g c =
    let d = c.deref-fork.result.now in
    of_ok (λ (x : TreeOf _). x ≡ forked g.T.Dated.moment d.left d.row c.in_ok-right.right) (λ (x : TreeOf _). x.rows ≡ c.args.left.now.rows ++ c.args.row ∷ c.args.right.now.rows) c.sharing_left.result
    (λ x is. ap (λ (u : TreeOf _). u.rows) is ∙ ap (λ (u : TreeOf _). d.left.rows ++ d.row ∷ u.rows) c.in_ok-right.ensures
    ∙ leans_left c.args.left.now.rows d.left.rows d.right.rows c.args.right.now.rows d.row c.args.row (rooted c.left.inside.root c.in-Some.fork d c.args.left.now c.left.view_is c.in-Some.is c.deref-fork.ensures))
    c.sharing_left.ensures

pub returns-then-height : goal.returns-then-height
returns-then-height g c =
    let d = c.deref-fork.result.now in
    of_ok (λ (x : TreeOf _). x.rows ≡ d.left.rows ++ d.row ∷ (d.right.rows ++ c.args.row ∷ c.args.right.now.rows)) (λ (x : TreeOf _). x.rows ≡ c.args.left.now.rows ++ c.args.row ∷ c.args.right.now.rows) c.split.result
    (λ x is. is ∙ leans_left c.args.left.now.rows d.left.rows d.right.rows c.args.right.now.rows d.row c.args.row (rooted c.left.inside.root c.in-Some.fork d c.args.left.now c.left.view_is c.in-Some.is c.deref-fork.ensures))
    c.split.ensures
