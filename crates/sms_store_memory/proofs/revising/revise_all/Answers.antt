use Rattle.std.proofs.Common.{arith, ◌≡◌, ◌∷◌, sym, ◌∙◌, ap, length}
use Rattle.std.specs.Vec.Iter.{into_iter_items}
use Rattle.sms_centre_rows.specs.waiting.Revisions.{all_revised}
use Rattle.sms_store_memory.proofs.revising.Lengths.{length_revised}
use Rattle.sms_store_memory.proofs.revising.revise_all.Goals as goal

pub loop-revision-preserved : goal.loop-revision-preserved
loop-revision-preserved g c =
    let key = g.T.Row.key in
    let reaching = g.T.Reaching.reaching in
    let rest = into_iter_items c.next.new.self in
    let step : into_iter_items c.loop-revision.revision-iterator ≡ c.in-Some.revision ∷ rest = c.in-Some.ensures.steps.0 in
    let rows = ap (λ t. t.rows) c.revise.ensures in
    let capacity = ap (λ t. t.capacity) c.revise.ensures in
    let count = ap (λ l. length l) step in
    let size = ap (λ l. length l) rows in
    record {
      can_next = tt;
      is_finite = tt;
      capacity = capacity ∙ c.loop-revision.invariant.capacity;
      room = omega (arith, capacity, count, size, length_revised key reaching c.in-Some.revision c.loop-revision.table.rows, c.loop-revision.invariant.room);
      rows = ap (λ l. all_revised key reaching rest l) rows ∙ ap (λ l. all_revised key reaching l c.loop-revision.table.rows) (sym step) ∙ c.loop-revision.invariant.rows;
    }
