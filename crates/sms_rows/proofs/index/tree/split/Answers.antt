use Rattle.std.proofs.Common.{◌≡◌, ◌∷◌, ◌++◌, ◌∙◌, ap}
use Rattle.sms_rows.specs.index.Shapes.{TreeOf}
use Rattle.sms_rows.proofs.index.Sides.{of_ok, rooted, splits}
use Rattle.sms_rows.proofs.index.tree.split.Goals as goal

pub returns : goal.returns
returns g c =
    let d = c.deref-fork.result.now in
    of_ok (λ (x : TreeOf _). x.rows ≡ c.in_ok-left-2.left.rows ++ d.row ∷ (d.right.rows ++ c.args.second ∷ c.args.right.now.rows)) (λ (x : TreeOf _). x.rows ≡ c.args.left.now.rows ++ c.args.first ∷ (c.args.middle.now.rows ++ c.args.second ∷ c.args.right.now.rows)) c.ahead.result
    (λ x is. is ∙ ap (λ (u : TreeOf _). u.rows ++ d.row ∷ (d.right.rows ++ c.args.second ∷ c.args.right.now.rows)) c.in_ok-left-2.ensures
    ∙ splits c.args.middle.now.rows c.args.left.now.rows d.left.rows d.right.rows c.args.right.now.rows c.args.first d.row c.args.second (rooted c.middle.inside.root c.in-Some.fork d c.args.middle.now c.middle.view_is c.in-Some.is c.deref-fork.ensures))
    c.ahead.ensures
