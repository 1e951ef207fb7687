use Rattle.std.proofs.Common.{◌≡◌, List, ◌∷◌, ◌++◌, ◌∙◌, ap, sym}
use Rattle.sms_rows.specs.index.Shapes.{TreeOf}
use Rattle.sms_rows.specs.index.Trees.{forked}
use Rattle.sms_rows.proofs.index.Sides.{leans_right, of_ok, rooted}
use Rattle.sms_rows.proofs.index.tree.lean_right.Goals as goal

pub returns : goal.returns
returns g c =
    let d = c.deref-fork.result.now in
    of_ok (λ (x : TreeOf _). x ≡ forked g.T.Dated.moment c.in_ok-left.left d.row d.right) (λ (x : TreeOf _). x.rows ≡ c.args.left.now.rows ++ c.args.row ∷ c.args.right.now.rows) c.sharing_right.result
    (λ x is. ap (λ (u : TreeOf _). u.rows) is ∙ ap (λ (u : TreeOf _). u.rows ++ d.row ∷ d.right.rows) c.in_ok-left.ensures
    ∙ leans_right c.args.right.now.rows c.args.left.now.rows d.left.rows d.right.rows c.args.row d.row (rooted c.right.inside.root c.in-Some.fork d c.args.right.now c.right.view_is c.in-Some.is c.deref-fork.ensures))
    c.sharing_right.ensures

pub returns-then-height : goal.returns-then-height
returns-then-height g c =
    let d = c.deref-fork.result.now in
    of_ok (λ (x : TreeOf _). x.rows ≡ c.args.left.now.rows ++ c.args.row ∷ (d.left.rows ++ d.row ∷ d.right.rows)) (λ (x : TreeOf _). x.rows ≡ c.args.left.now.rows ++ c.args.row ∷ c.args.right.now.rows) c.split.result
    (λ x is. is ∙ ap (λ (s : List _). c.args.left.now.rows ++ c.args.row ∷ s) (sym (rooted c.right.inside.root c.in-Some.fork d c.args.right.now c.right.view_is c.in-Some.is c.deref-fork.ensures)))
    c.split.ensures
