use Rattle.std.proofs.Common.{◌≡◌, ◌++◌, ◌∙◌, refl, ap}
use Rattle.crossbeam_queue.specs.Passes.{view}
use Rattle.sms_seats.specs.Jobs.{of}
use Rattle.sms_seats.proofs.Lines.{same_set, given_get, given_unset}
use Rattle.sms_seats.proofs.Places.{ok_map}
use Rattle.sms_seats.proofs.Marks.{all_popped}
use Rattle.sms_seats.proofs.Seating.{seat_within}
use Rattle.sms_seats.proofs.queues.SeatQueues.take_back.Goals as goal

pub returns-clause-queues : goal.returns-clause-queues
returns-clause-queues g c = let us = c.args.self.now.lines.items in let l = c.index_mut.result.now in let m = c.take_back.new.self in record {
  queues = (c.compare.ensures.queue.0, same_set us us c.args.seat.number l m refl c.index_mut.ensures.value c.take_back.ensures.same);
  ran = ap (λ v. v.ran) c.compare.ensures.keeper;
  given = given_unset us c.args.seat.number l m (seat_within c.args.self.now c.args.seat c.requires) c.index_mut.ensures.value c.take_back.ensures.given;
}

pub returns-clause-ended : goal.returns-clause-ended
returns-clause-ended g c end = let h = c.compare.ensures.put in
    all_popped c.args.seat.number (view c.args.seat.pass).put (view c.args.self.now.pass).ran _ c.args.seat.ended (h.1 ∙ ap (λ v. of v.seat (view c.args.self.now.pass).ran ++ of v.seat h.0) c.args.seat.puts) end

pub returns-clause-taken : goal.returns-clause-taken
returns-clause-taken g c = let h = c.take_back.ensures.taken in
    (h.0, given_get c.args.self.now.lines.items c.args.seat.number c.index_mut.result.now (seat_within c.args.self.now c.args.seat c.requires) c.index_mut.ensures.value ∙ h.1)

pub returns-clause-all : goal.returns-clause-all
returns-clause-all g c = ok_map c.take_back.result (λ v. (view c.index_mut.result.now.pass).given ≡ (view c.args.seat.taker).taken ++ v.items) _
    (λ v h. given_get c.args.self.now.lines.items c.args.seat.number c.index_mut.result.now (seat_within c.args.self.now c.args.seat c.requires) c.index_mut.ensures.value ∙ h) c.take_back.ensures.all
