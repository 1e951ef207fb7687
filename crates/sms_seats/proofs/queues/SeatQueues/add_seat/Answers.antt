use Rattle.std.proofs.Common.{◌∙◌, ◌++◌, ◌∷◌, [], true≢false, Some, ⊎_elim, List, map, length, slice_get, ap, sym, arith}
use Rattle.sms_seats.specs.declared.queues.SeatChannel.{SeatChannel}
use Rattle.sms_seats.specs.Jobs.{of, has_end}
use Rattle.sms_seats.specs.Queues.{given_at}
use Rattle.sms_seats.proofs.Lines.{given_snoc}
use Rattle.sms_seats.proofs.JobsKeep.{forks}
use Rattle.sms_seats.proofs.Places.{length_snoc, slice_get_snoc, slice_get_last, slice_get_map_longer}
use Rattle.sms_seats.proofs.queues.SeatQueues.add_seat.Goals as goal

pub another-pass-requires-clause-rule : goal.another-pass-requires-clause-rule
another-pass-requires-clause-rule g c = forks _ _ (ap (λ v. v.runs) c.args.self.now.runs)

pub invariant_of-self-2-clause-numbered : goal.invariant_of-self-2-clause-numbered
invariant_of-self-2-clause-numbered g c = let a = ap (λ v. v.made) c.another-pass.ensures.rule.0 in let b = c.args.self.now.numbered in
    let d = length_snoc _ _ _ c.push_reserved.ensures.items in let e = ap length c.reserve.ensures.items in omega arith

pub invariant_of-self-2-clause-sized : goal.invariant_of-self-2-clause-sized
invariant_of-self-2-clause-sized g c = let b = c.args.self.now.sized in let d = length_snoc _ _ _ c.push_reserved.ensures.items in let e = ap length c.reserve.ensures.items in
    let f = length_snoc _ _ _ c.push_reserved-2.ensures.items in let h = ap length c.reserve-2.ensures.items in omega arith

pub invariant_of-self-2-clause-ended : goal.invariant_of-self-2-clause-ended
invariant_of-self-2-clause-ended g c k e = ap (λ v. has_end (of k v.ran)) c.another-pass.ensures.rule.0
    ∙ ⊎_elim (λ x. c.args.self.now.ended k (ap (λ l. slice_get l k) (sym c.reserve-2.ensures.items) ∙ x)) (λ x. absurd (true≢false (sym x.1))) (slice_get_snoc _ _ _ k (ap (λ l. slice_get l k) (sym c.push_reserved-2.ensures.items) ∙ e))

pub returns-clause-seat : goal.returns-clause-seat
returns-clause-seat g c = let k = c.len-number.result in let ids = λ (ls : List (SeatChannel g.row.O.Denot)). slice_get (map (λ (l : SeatChannel g.row.O.Denot). l.pass.table_id) ls) k in record {
  seat = (
    c.another-pass.ensures.queue.1.0 ∙ ap (λ q. q.table.shared.table_id) c.deref-2.ensures ∙ sym c.args.self.now.seated.0 ∙ sym c.another-pass.ensures.queue.0.0,
    ap ids c.push_reserved.ensures.items ∙ slice_get_last (λ (l : SeatChannel g.row.O.Denot). l.pass.table_id) c.reserve.new.self.items c.in_ok-line.line k (let n = c.len-number.ensures in omega arith) ∙ ap Some (sym c.in_ok-line.ensures.queue.1),
  );
  number = (let n = c.len-number.ensures in let e = ap length c.reserve.ensures.items in omega arith);
  slots = ap (λ q. q.cap) c.in_ok-jobs.ensures;
  room = c.in_ok-line.ensures.slots ∙ c.capacity.ensures ∙ ap (λ q. q.cap) c.deref.ensures;
  put = ap (λ v. v.put) c.another-pass.ensures.rule.1;
  taken = ap (λ v. v.taken) c.in_ok-line.ensures.empty.1;
}

pub returns-clause-more : goal.returns-clause-more
returns-clause-more g c = record {
  seats = (let d = length_snoc _ _ _ c.push_reserved.ensures.items in let e = ap length c.reserve.ensures.items in omega arith);
  ran = ap (λ v. v.ran) c.another-pass.ensures.rule.0;
  given = λ s. ap (λ l. given_at l s) (c.push_reserved.ensures.items ∙ ap (λ l. l ++ c.in_ok-line.line ∷ []) c.reserve.ensures.items) ∙ given_snoc c.args.self.now.lines.items c.in_ok-line.line s c.in_ok-line.ensures.empty.0;
}

pub returns-clause-others : goal.returns-clause-others
returns-clause-others g c o h = let ids = λ (ls : List (SeatChannel g.row.O.Denot)). slice_get (map (λ (l : SeatChannel g.row.O.Denot). l.pass.table_id) ls) o.number in (
  h.0 ∙ sym c.another-pass.ensures.queue.0.0,
  ap ids (c.push_reserved.ensures.items ∙ ap (λ l. l ++ c.in_ok-line.line ∷ []) c.reserve.ensures.items) ∙ slice_get_map_longer (λ (l : SeatChannel g.row.O.Denot). l.pass.table_id) c.args.self.now.lines.items (c.in_ok-line.line ∷ []) _ o.number h.1,
)
