use Rattle.std.proofs.Common.{◌∷◌, map, sym, subst}
use Rattle.std.specs.BinaryHeap.{heap_items}
use Rattle.std.specs.List.Sorted.{IsPermutation}
use Rattle.sms_base.specs.Among.{Among}
use Rattle.sms_rows.specs.expiry.Deadlines.{DeadlinesOf, inside}
use Rattle.sms_rows.proofs.expiry.Heaps.{pushed_exact, pushed_others, pushed_own}
use Rattle.sms_rows.proofs.expiry.deadlines.Deadlines.push.Goals as goal

pub returns-clause-own : goal.returns-clause-own
returns-clause-own c = pushed_own c.args.deadline (heap_items c.self.inside.heap) (heap_items c.push.new.self) c.in_ok-push.ensures.permutation

pub returns-clause-others : goal.returns-clause-others
returns-clause-others c = λ other m.
    pushed_others c.args.deadline other (heap_items c.self.inside.heap) (heap_items c.push.new.self) c.in_ok-push.ensures.permutation
    (subst (λ (v : DeadlinesOf). Among other v.items) (sym c.self.view_is) m)

pub returns-clause-exact : goal.returns-clause-exact
returns-clause-exact c =
    subst (λ (v : DeadlinesOf). IsPermutation (c.args.deadline ∷ v.items) (map inside (heap_items c.push.new.self))) c.self.view_is
    (pushed_exact c.args.deadline (heap_items c.self.inside.heap) (heap_items c.push.new.self) c.in_ok-push.ensures.permutation)
