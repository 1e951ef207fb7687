use Rattle.std.proofs.Common.{◌⊎◌, List, ℕ, subst}
use Rattle.std.specs.BinaryHeap.{heap_items}
use Rattle.sms_base.specs.Among.{Among}
use Rattle.std.proofs.lemmas.List.Sorted.{IsNonDecreasingBy-from_sort}
use Rattle.sms_rows.specs.expiry.Deadlines.{DeadlinesOf, HasOnlyPast, HasPast, IsCollected, IsPastIn}
use Rattle.sms_rows.specs.declared.expiry.deadline.Deadline.{Deadline}
use Rattle.std.specs.declared.cmp.Reverse.{Reverse}
use Rattle.sms_rows.proofs.expiry.Heaps.{all_collected, only_collected}
use Rattle.sms_rows.proofs.expiry.deadlines.Deadlines.past.Goals as goal

pub returns-clause-all : goal.returns-clause-all
returns-clause-all c =
    subst (λ (v : DeadlinesOf). HasPast c.args.now v.items c.sort.new.self.items) c.self.view_is
    (all_collected c.args.now (heap_items c.self.inside.heap) c.collect.new.ids.items c.sort.new.self.items
    (subst (λ (h : List (Reverse Deadline)). IsCollected c.args.now h 0 c.collect.new.ids.items) c.as_slice.ensures.value c.in_ok-collect.ensures.found) c.in_ok-sort.ensures.permutation)

pub returns-clause-order : goal.returns-clause-order
returns-clause-order c = IsNonDecreasingBy-from_sort (λ (n : ℕ). n) c.sort.new.self.items c.in_ok-sort.ensures.sorted

pub returns-clause-only : goal.returns-clause-only
returns-clause-only c =
    subst (λ (v : DeadlinesOf). HasOnlyPast c.args.now v.items c.sort.new.self.items) c.self.view_is
    (only_collected c.args.now (heap_items c.self.inside.heap) c.new-ids.result.items c.collect.new.ids.items c.sort.new.self.items c.new-ids.ensures.items
    (subst (λ (h : List (Reverse Deadline)). (n : ℕ) → Among n c.collect.new.ids.items → Among n c.new-ids.result.items ⊎ IsPastIn c.args.now h n) c.as_slice.ensures.value c.in_ok-collect.ensures.only) c.in_ok-sort.ensures.permutation)
