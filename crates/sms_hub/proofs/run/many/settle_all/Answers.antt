use Rattle.std.proofs.Common.{◌≡◌, [], ◌∷◌, ◌∙◌, List, true≢false, ◌++◌, refl, length, sym, ap, subst, zero-add, arith}
use Rattle.std.specs.Vec.Iter.{into_iter_items}
use Rattle.sms_keeper.specs.History.{each_seat, for_seat, work}
use Rattle.sms_keeper.specs.Keeping.{given_by, ran_by}
use Rattle.sms_seats.specs.Seats.{number_of}
use Rattle.sms_hub.specs.Running.{SessionThread, AreAt, jobs_for, lists_of}
use Rattle.sms_keeper.proofs.Histories.{seat_kept}
use Rattle.sms_seats.proofs.Places.{length_nil, length_snoc}
use Rattle.sms_hub.proofs.Sessions.{each_more, each_next, each_last, unchanged_same, unchanged_trans, at_first, at_next, jobs_next}
use Rattle.sms_hub.proofs.run.many.settle_all.Goals as goal

pub loop-thread-init : goal.loop-thread-init
loop-thread-init g c = let e : into_iter_items c.into_iter-thread-iterator.result ≡ c.args.threads.items = c.into_iter-thread-iterator.ensures.into_iter_gives.0 in let P : List (SessionThread g.row.J.Denot g.row.O.Denot) → Type 0 = λ l. AreAt c.args.keeper.now 0 l in record {
  keeper = unchanged_same c.args.keeper.now;
  ready = subst P (sym e) c.requires.seats;
  count = zero-add _ ∙ ap length e;
  answers = λ _. ap lists_of c.new-all.ensures.items;
  jobs = λ _. ap jobs_for e;
}

pub settle_next-requires : goal.settle_next-requires
settle_next-requires g c = let l = c.loop-thread.invariant in
    seat_kept c.args.keeper.now c.loop-thread.keeper c.in-Some.thread.promise.seat.value l.keeper.hub (at_first c.args.keeper.now (length c.loop-thread.yielded) c.in-Some.thread _ _ c.in-Some.ensures.steps.0 l.ready).0

pub loop-thread-preserved-then-not-settle_next : goal.loop-thread-preserved-then-not-settle_next
loop-thread-preserved-then-not-settle_next g c = let l = c.loop-thread.invariant in let k = c.args.keeper.now in let t = c.in-Some.thread in let n = length c.loop-thread.yielded in
    let more = length_snoc c.loop-thread.yielded t _ refl in let shorter = ap length c.in-Some.ensures.steps.0 in record {
      keeper = unchanged_trans k c.loop-thread.keeper c.settle_next.new.keeper l.keeper c.settle_next.ensures.keeper;
      ready = at_next k n _ t _ _ c.in-Some.ensures.steps.0 more l.ready;
      count = (let e = l.count in omega arith);
      answers = λ no. absurd (true≢false (sym no));
      jobs = λ no. absurd (true≢false (sym no));
    }

pub loop-thread-preserved : goal.loop-thread-preserved
loop-thread-preserved g c = let l = c.loop-thread.invariant in let k = c.args.keeper.now in let t = c.in-Some.thread in let n = length c.loop-thread.yielded in
    let more = length_snoc c.loop-thread.yielded t _ refl in let shorter = ap length c.in-Some.ensures.steps.0 in
    let first = at_first k n t _ _ c.in-Some.ensures.steps.0 l.ready in let h = c.settle_next.ensures in let done = c.if-not-settle_next.false in record {
      keeper = unchanged_trans k c.loop-thread.keeper c.settle_next.new.keeper l.keeper h.keeper;
      ready = at_next k n _ t _ _ c.in-Some.ensures.steps.0 more l.ready;
      count = (let e = l.count in omega arith);
      answers = λ whole. h.answers done ∙ each_more n (length (c.loop-thread.yielded ++ t ∷ [])) (given_by k) (lists_of c.loop-thread.all.items) _ (l.answers whole) (l.keeper.given (number_of t.promise.seat.value) ∙ ap (given_by k) first.1) (omega arith);
      jobs = λ whole. each_next n (length (c.loop-thread.yielded ++ t ∷ [])) (λ m. for_seat m (work (ran_by k))) t.promise.jobs.value.items _ _ (omega arith)
          (jobs_next k c.loop-thread.keeper n (number_of t.promise.seat.value) t.promise.jobs.value.items l.keeper first.1 c.requires.closed (let e = l.count in let f = c.requires.count in omega arith) (h.jobs done))
          (ap (λ r. each_seat n (λ m. for_seat m (work (ran_by k))) ++ jobs_for r) (sym c.in-Some.ensures.steps.0) ∙ l.jobs whole);
    }

pub returns-then-whole-clause-answers : goal.returns-then-whole-clause-answers
returns-then-whole-clause-answers g c = let l = c.loop-thread.invariant in let none = length_nil (into_iter_items c.loop-thread.thread-iterator) (sym c.loop-thread.thread-iterator.rest.ok.0 ∙ c.in-None.ensures.steps.0) in
    let same : length c.loop-thread.yielded ≡ length c.args.threads.items = let e = l.count in let f = ap length none in omega arith in
    l.answers c.if-whole.true ∙ ap (λ n. each_seat n (given_by c.args.keeper.now)) same

pub returns-then-whole-clause-jobs : goal.returns-then-whole-clause-jobs
returns-then-whole-clause-jobs g c = let l = c.loop-thread.invariant in let rest = into_iter_items c.loop-thread.thread-iterator in let none = length_nil rest (sym c.loop-thread.thread-iterator.rest.ok.0 ∙ c.in-None.ensures.steps.0) in
    each_last (length c.loop-thread.yielded) (length c.args.threads.items) (λ m. for_seat m (work (ran_by c.args.keeper.now))) (jobs_for rest) (jobs_for c.args.threads.items) (ap jobs_for none) (let e = l.count in let f = ap length none in omega arith) (l.jobs c.if-whole.true)
