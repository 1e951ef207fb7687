use Rattle.smsc_loop.proofs.Counting.{answered_kept, counted_job, last_job, turns_job, vacant_kept}
use Rattle.smsc_loop.proofs.open_seat.OpenSeat.put.Goals as goal

pub invariant_of-self-2 : goal.invariant_of-self-2
invariant_of-self-2 g c = record {
  «open» = c.put.ensures.open;
  counted = counted_job _ _ _ _ _ _ c.args.self.now.counted c.args.job c.in-Some.awaited c.in-Some.ensures.0 c.in_ok-put.ensures.put c.put.ensures.taken;
  few = c.in-Some.ensures.1;
  asked = last_job _ _ c.args.job c.asks_nothing-is_asked.result c.asks_nothing-is_asked.ensures c.in_ok-put.ensures.put;
  answered = answered_kept _ _ _ c.args.self.now.answered c.put.ensures.taken;
  vacant = vacant_kept _ _ _ c.args.self.now.vacant c.put.ensures.taken;
}

pub returns-clause-turn : goal.returns-clause-turn
returns-clause-turn g c =
    turns_job _ _ _ _ _ _ c.args.self.now.counted c.args.job c.in-Some.awaited c.in-Some.ensures.0 c.in_ok-put.ensures.put c.put.ensures.taken c.in-Some.ensures.1
