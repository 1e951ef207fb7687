use Rattle.std.proofs.Common.{◌≡◌, ◌⊎◌, ◌∷◌, IfSome, Some, map, subst}
use Rattle.std.specs.BinaryHeap.{heap_items, heap_len}
use Rattle.std.specs.List.Sorted.{IsPermutation}
use Rattle.sms_base.specs.Among.{Among}
use Rattle.sms_rows.specs.expiry.Deadlines.{DeadlinesOf, first_of, inside}
use Rattle.sms_rows.proofs.expiry.Heaps.{popped, popped_exact}
use Rattle.sms_rows.proofs.expiry.deadlines.Deadlines.drop_first.Goals as goal

pub returns-clause-others : goal.returns-clause-others
returns-clause-others c = λ other.
    subst (λ (v : DeadlinesOf). Among other v.items → (Some other ≡ first_of v.items) ⊎ Among other (map inside (heap_items c.pop.new.self))) c.self.view_is
    (popped c.pop.result other (heap_items c.self.inside.heap) (heap_items c.pop.new.self) (heap_len c.self.inside.heap) c.self.inside.heap.data.ok.0 c.pop.ensures.variant c.pop.ensures.top c.pop.ensures.permutation)

pub returns-clause-exact : goal.returns-clause-exact
returns-clause-exact c =
    subst (λ (v : DeadlinesOf). IfSome (first_of v.items) (λ first. IsPermutation v.items (first ∷ map inside (heap_items c.pop.new.self)))) c.self.view_is
    (popped_exact c.pop.result (heap_items c.self.inside.heap) (heap_items c.pop.new.self) (heap_len c.self.inside.heap) c.self.inside.heap.data.ok.0 c.pop.ensures.variant c.pop.ensures.top c.pop.ensures.permutation)
