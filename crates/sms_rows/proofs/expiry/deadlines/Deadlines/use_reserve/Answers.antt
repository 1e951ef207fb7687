use Rattle.std.proofs.Common.{map, sym, subst}
use Rattle.std.specs.BinaryHeap.{heap_items}
use Rattle.std.specs.List.Sorted.{IsPermutation}
use Rattle.sms_base.specs.Among.{Among}
use Rattle.sms_rows.specs.expiry.Deadlines.{DeadlinesOf, inside}
use Rattle.sms_rows.proofs.expiry.Heaps.{appended_exact, appended_others}
use Rattle.sms_rows.proofs.expiry.deadlines.Deadlines.use_reserve.Goals as goal

pub returns-in-Ok-clause-items : goal.returns-in-Ok-clause-items
returns-in-Ok-clause-items c = λ other m.
    appended_others other (heap_items c.reserve.inside.heap) (heap_items c.self.inside.heap) (heap_items c.append.new.self) c.reserve.invariant c.in-Ok.ensures.permutation
    (subst (λ (v : DeadlinesOf). Among other v.items) (sym c.self.view_is) m)

pub returns-in-Ok-clause-exact : goal.returns-in-Ok-clause-exact
returns-in-Ok-clause-exact c =
    subst (λ (v : DeadlinesOf). IsPermutation v.items (map inside (heap_items c.append.new.self))) c.self.view_is
    (appended_exact (heap_items c.reserve.inside.heap) (heap_items c.self.inside.heap) (heap_items c.append.new.self) c.reserve.invariant c.in-Ok.ensures.permutation)
