use Rattle.std.proofs.Common.{◌∙◌, arith, refl, sym}
use Rattle.std.proofs.lemmas.Bool.Decides.{nat_tests}
use Rattle.sms_rows.proofs.expiry.Heaps.{late, no_later, past_at, same_id, under_within}
use Rattle.sms_rows.proofs.expiry.deadlines.due.Goals as goal

pub returns-then-place-heap-clause-none : goal.returns-then-place-heap-clause-none
returns-then-place-heap-clause-none c = λ k d u within due. let w = under_within c.args.place k u in absurd (omega (arith, w, within))

pub returns-then-lt-clause-none : goal.returns-then-lt-clause-none
returns-then-lt-clause-none c = λ k d u within due.
    let l = no_later c.args.heap.now c.args.place k c.index-heap-place.result c.requires u within in
    absurd (late c.args.heap.now c.args.place k c.args.now d c.index-heap-place.result within c.index-heap-place.is l (let e = c.if-lt.ensures in grind (arith, nat_tests)) due)

pub returns-clause-due : goal.returns-clause-due
returns-clause-due c =
    past_at c.args.heap.now c.args.place c.args.now c.number.result c.index-heap-place.result (let w = c.if-place-heap.false in omega (arith, w)) c.index-heap-place.is (let e = c.if-lt.ensures in grind (arith, nat_tests)) c.number.ensures.value

pub returns-clause-own : goal.returns-clause-own
returns-clause-own c = λ d.
    same_id c.args.heap.now c.args.place c.args.place d c.index-heap-place.result (let w = c.if-place-heap.false in omega (arith, w)) refl ∙ sym c.number.ensures.value
