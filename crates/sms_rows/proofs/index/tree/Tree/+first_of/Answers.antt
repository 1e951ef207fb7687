use Rattle.std.proofs.Common.{arith}
use Rattle.sms_rows.specs.index.First.{is_from}
use Rattle.sms_rows.proofs.index.Sides.{bounded_root, from_behind, from_is, from_not, none_from, rooted, such_behind, such_here, such_left, such_right}
use Rattle.sms_rows.proofs.index.tree.Tree.+first_of.Goals as goal

pub returns-then-has_none : goal.returns-then-has_none
returns-then-has_none g t c = λ rises.
    let d = c.deref-fork.result.now in
    none_from g.T.Row.key g.T.Dated.moment c.args.bound c.args.first c.args.now d.earliest d.latest c.args.self.now.rows (cc)
    (bounded_root g.T.Dated.moment c.self.inside.root c.in-Some.fork d c.args.self.now c.self.view_is c.in-Some.is c.deref-fork.ensures c.self.invariant)

pub returns-then-number : goal.returns-then-number
returns-then-number g t c = λ rises.
    let d = c.deref-fork.result.now in
    such_behind g.T.Row.key (is_from g.T.Row.key g.T.Dated.moment c.args.bound c.args.first c.args.now) c.args.self.now.rows d.left.rows d.row d.right.rows (rooted c.self.inside.root c.in-Some.fork d c.args.self.now c.self.view_is c.in-Some.is c.deref-fork.ensures) rises
    c.args.first c.first_of.result (omega arith) (λ y lower. from_behind g.T.Row.key g.T.Dated.moment c.args.bound c.args.first c.args.now y lower) c.first_of.ensures

pub returns-in-Some-first_of : goal.returns-in-Some-first_of
returns-in-Some-first_of g t c = λ rises.
    let d = c.deref-fork.result.now in
    such_left g.T.Row.key (is_from g.T.Row.key g.T.Dated.moment c.args.bound c.args.first c.args.now) c.args.self.now.rows d.left.rows d.row d.right.rows (rooted c.self.inside.root c.in-Some.fork d c.args.self.now c.self.view_is c.in-Some.is c.deref-fork.ensures) rises
    c.in-Some-first_of.row c.first_of-2.result c.in-Some-first_of.is c.first_of-2.ensures

pub returns-in-None : goal.returns-in-None
returns-in-None g t c = λ rises.
    let d = c.deref-fork.result.now in
    such_here g.T.Row.key (is_from g.T.Row.key g.T.Dated.moment c.args.bound c.args.first c.args.now) c.args.self.now.rows d.left.rows d.row d.right.rows (rooted c.self.inside.root c.in-Some.fork d c.args.self.now c.self.view_is c.in-Some.is c.deref-fork.ensures) rises
    c.first_of-2.result c.in-None.is c.first_of-2.ensures (from_is g.T.Row.key g.T.Dated.moment c.args.bound c.args.first c.args.now d.row (omega arith) cc)

pub returns-in-None-2 : goal.returns-in-None-2
returns-in-None-2 g t c = λ rises.
    let d = c.deref-fork.result.now in
    such_right g.T.Row.key (is_from g.T.Row.key g.T.Dated.moment c.args.bound c.args.first c.args.now) c.args.self.now.rows d.left.rows d.row d.right.rows (rooted c.self.inside.root c.in-Some.fork d c.args.self.now c.self.view_is c.in-Some.is c.deref-fork.ensures) rises
    c.first_of-2.result c.first_of-in-None-2.result c.in-None-2.is c.first_of-2.ensures (from_not g.T.Row.key g.T.Dated.moment c.args.bound c.args.first c.args.now d.row cc) c.first_of-in-None-2.ensures
