use Rattle.std.proofs.Common.{◌≡◌, ◌+◌, ◌<◌, ◌++◌, ◌∷◌, [], ◌∙◌, ℕ, List, Option, length, refl, sym, ap, subst, arith}
use Rattle.std.specs.Vec.Iter.{into_iter_items}
use Rattle.sms_keeper.specs.History.{for_seat, work}
use Rattle.sms_keeper.specs.Keeping.{given_by, ran_by, seats_of}
use Rattle.sms_keeper.proofs.Histories.{seat_kept}
use Rattle.sms_seats.proofs.Places.{length_nil, length_snoc}
use Rattle.sms_hub.proofs.Sessions.{unchanged_same, unchanged_trans}
use Rattle.smsc_arrivals.specs.Ways.{made_by}
use Rattle.smsc_arrivals.specs.declared.arrival.Arrival.{Arrival}
use Rattle.smsc_server.specs.serving.Connections.{Admitted}
use Rattle.smsc_server.specs.serving.Entering.{arrivals_among}
use Rattle.smsc_server.specs.serving.SeatThreads.{HaveAdmitted}
use Rattle.smsc_server.specs.serving.Sittings.{SeatDid}
use Rattle.smsc_server.proofs.serving.Settled.{at_next, did_here}
use Rattle.smsc_server.proofs.serving.Threads.{at_split, place_left, split_last, split_next}
use Rattle.smsc_server.proofs.serving.seat_thread.settle_all.Goals as goal

pub loop-thread-init : goal.loop-thread-init
loop-thread-init g c = record {
  keeper = unchanged_same c.args.keeper.now;
  split = c.into_iter-thread-iterator.ensures.into_iter_gives.0;
  same = refl;
  made = refl;
  given = refl;
  count = ap length c.requires.none;
  did = λ n less. absurd (omega (arith, less));
}

pub settle-requires-clause-seat : goal.settle-requires-clause-seat
settle-requires-clause-seat g c = let l = c.loop-thread.invariant in
    seat_kept c.args.keeper.now c.loop-thread.keeper c.in-Some.thread.promise.seat.value l.keeper.hub
    (c.requires.seats (length c.loop-thread.yielded) c.in-Some.thread (at_split _ _ _ _ _ l.split c.in-Some.ensures.steps.0)).0

pub settle-requires-clause-way : goal.settle-requires-clause-way
settle-requires-clause-way g c = let l = c.loop-thread.invariant in
    (c.requires.ways (length c.loop-thread.yielded) c.in-Some.thread (at_split _ _ _ _ _ l.split c.in-Some.ensures.steps.0)).0 ∙ sym l.same

pub settle-requires-clause-next : goal.settle-requires-clause-next
settle-requires-clause-next g c = let l = c.loop-thread.invariant in
    (c.requires.ways (length c.loop-thread.yielded) c.in-Some.thread (at_split _ _ _ _ _ l.split c.in-Some.ensures.steps.0)).1 ∙ sym l.count

pub settle-requires-clause-made : goal.settle-requires-clause-made
settle-requires-clause-made g c = let l = c.loop-thread.invariant in
    let left : length c.loop-thread.yielded < made_by c.args.giver.now =
    place_left _ c.loop-thread.yielded _ c.in-Some.thread (made_by c.args.giver.now) (sym c.requires.made) (split_next _ _ _ _ _ l.split c.in-Some.ensures.steps.0) in
    let count = l.count in let made = l.made in omega (arith, left, count, made)

pub loop-thread-preserved : goal.loop-thread-preserved
loop-thread-preserved g c = let l = c.loop-thread.invariant in let k = c.args.keeper.now in let t = c.in-Some.thread in let n = length c.loop-thread.yielded in
    let there = at_split _ _ _ _ _ l.split c.in-Some.ensures.steps.0 in
    let next = split_next _ _ _ _ _ l.split c.in-Some.ensures.steps.0 in
    let did = c.settle.ensures.did in
    let P : ℕ → List (Option (Arrival g.row.S.Denot)) → Type 0 =
    λ m took. (admitted : Admitted) → HaveAdmitted admitted c.args.threads.items
    → SeatDid g.S.Read.remaining g.S.Write.contents admitted (for_seat m (work (ran_by k))) (given_by k m) (arrivals_among took) in record {
      keeper = unchanged_trans k c.loop-thread.keeper c.settle.new.keeper l.keeper c.settle.ensures.keeper;
      split = next;
      same = c.settle.ensures.same.0 ∙ l.same;
      made = c.settle.ensures.same.1 ∙ l.made;
      given = c.settle.ensures.same.2 ∙ l.given;
      count = length_snoc _ _ _ did.1 ∙ (ap (λ (m : ℕ). m + 1) l.count ∙ sym (length_snoc c.loop-thread.yielded t _ refl));
      did = at_next P _ _ did.0 c.loop-thread.yielded t did.1 l.count l.did
          (λ admitted have.
          did_here g.S.Read.remaining g.S.Write.contents k c.loop-thread.keeper n t (arrivals_among did.0) l.keeper (c.requires.seats n t there).1 c.requires.closed
          (place_left _ _ _ _ _ c.requires.count next) did.2 admitted (have n t there));
    }

pub returns-clause-giver : goal.returns-clause-giver
returns-clause-giver g c = let l = c.loop-thread.invariant in (l.made, l.given)

pub returns-clause-did : goal.returns-clause-did
returns-clause-did g c = let l = c.loop-thread.invariant in
    let none = length_nil (into_iter_items c.loop-thread.thread-iterator) (sym c.loop-thread.thread-iterator.rest.ok.0 ∙ c.in-None.ensures.steps.0) in
    let all = split_last _ _ _ l.split none in
    λ n less. l.did n (subst (λ (m : ℕ). n < m) (sym (ap length all ∙ c.requires.count)) less)
