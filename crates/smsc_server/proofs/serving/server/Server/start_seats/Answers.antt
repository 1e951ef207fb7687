use Rattle.std.proofs.Common.{◌≡◌, ◌∙◌, [], ◌∷◌, ◌++◌, List, length, sym, ap, subst}
use Rattle.std.specs.Arc.{arc_value}
use Rattle.std.specs.Vec.Iter.{into_iter_items}
use Rattle.sms_centre_spec.specs.declared.jobs.job.Job.{Job}
use Rattle.sms_centre_spec.specs.declared.jobs.reply.Reply.{Reply}
use Rattle.sms_seats.specs.declared.seat.Seat.{Seat}
use Rattle.sms_seats.proofs.Places.{length_nil}
use Rattle.smsc_server.specs.serving.Connections.{admits}
use Rattle.smsc_server.specs.serving.SeatThreads.{HasOneMore, HaveStarted}
use Rattle.smsc_server.proofs.serving.Threads.{at_split, both_ok, not_ok_so, ok_so, ok_then, split_last, split_next, started_more, started_none}
use Rattle.smsc_server.proofs.serving.server.Server.start_seats.Goals as goal

pub loop-seat-init : goal.loop-seat-init
loop-seat-init g c = record {
  split = c.into_iter-seat-iterator.ensures.into_iter_gives.0;
  started = started_none _ _ _ c.requires.giver c.requires.none;
}

pub start_seat-started-requires-clause-seat : goal.start_seat-started-requires-clause-seat
start_seat-started-requires-clause-seat g c = λ lifetimes bounds. let l = c.loop-seat.invariant in
    c.requires.new (length c.loop-seat.yielded) c.in-Some.seat (at_split _ _ _ _ _ l.split c.in-Some.ensures.steps.0)

pub start_seat-started-requires-clause-giver : goal.start_seat-started-requires-clause-giver
start_seat-started-requires-clause-giver g c = λ lifetimes bounds. let l = c.loop-seat.invariant in
    (ok_so _ c.loop-seat.started (sym c.is_ok.ensures.value ∙ c.if-is_ok.true) l.started).returned

pub loop-seat-preserved-then-is_ok : goal.loop-seat-preserved-then-is_ok
loop-seat-preserved-then-is_ok g c = let l = c.loop-seat.invariant in record {
  split = split_next _ _ _ _ _ l.split c.in-Some.ensures.steps.0;
  started = both_ok _ _ _ c.start_seat-started.result
      (started_more (admits (arc_value c.args.shared.now.accounts) (arc_value c.args.shared.now.access)) _ _ c.in-Some.seat c.loop-seat.yielded _ _
      (ok_so _ c.loop-seat.started (sym c.is_ok.ensures.value ∙ c.if-is_ok.true) l.started))
      c.start_seat-started.ensures.more c.start_seat-started.ensures.giver;
}

pub loop-seat-preserved : goal.loop-seat-preserved
loop-seat-preserved g c = let l = c.loop-seat.invariant in record {
  split = split_next _ _ _ _ _ l.split c.in-Some.ensures.steps.0;
  started = not_ok_so _ c.loop-seat.started (sym c.is_ok.ensures.value ∙ c.if-is_ok.false);
}

pub returns : goal.returns
returns g c = let l = c.loop-seat.invariant in
    let none = length_nil (into_iter_items c.loop-seat.seat-iterator) (sym c.loop-seat.seat-iterator.rest.ok.0 ∙ c.in-None.ensures.steps.0) in
    ok_then _ _ c.loop-seat.started
    (subst (λ (l : List (Seat Job Reply)). HaveStarted (admits (arc_value c.args.shared.now.accounts) (arc_value c.args.shared.now.access)) c.loop-seat.giver l c.loop-seat.self.seats.items) (split_last _ _ _ l.split none)) l.started
