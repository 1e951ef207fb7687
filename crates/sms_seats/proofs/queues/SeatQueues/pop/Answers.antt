use Rattle.std.proofs.Common.{ap, ◌∙◌, not, length-set}
use Rattle.crossbeam_queue.specs.Passes.{view}
use Rattle.sms_seats.specs.Jobs.{of, has_end}
use Rattle.sms_seats.proofs.Marks.{stays, closes, end_of_none}
use Rattle.sms_seats.proofs.queues.SeatQueues.pop.Goals as goal

pub invariant_of-self-then-letter-len-clause-ended : goal.invariant_of-self-then-letter-len-clause-ended
invariant_of-self-then-letter-len-clause-ended g c k e =
    ap (λ v. has_end (of k v.ran)) c.in_ok-letter.ensures.next ∙ closes c.args.self.now.closed.items (view c.args.self.now.pass).ran c.in_ok-letter.letter (end_of_none _ (c.is_none.ensures ∙ ap not c.if-is_none.true)) c.args.self.now.ended k e

pub invariant_of-self-else-letter-len-clause-ended : goal.invariant_of-self-else-letter-len-clause-ended
invariant_of-self-else-letter-len-clause-ended g c k e =
    ap (λ v. has_end (of k v.ran)) c.in_ok-letter.ensures.next ∙ stays c.args.self.now.closed.items (view c.args.self.now.pass).ran c.in_ok-letter.letter c.args.self.now.ended k e

pub invariant_of-self-else-is_none-clause-ended : goal.invariant_of-self-else-is_none-clause-ended
invariant_of-self-else-is_none-clause-ended g c k e =
    ap (λ v. has_end (of k v.ran)) c.in_ok-letter.ensures.next ∙ stays c.args.self.now.closed.items (view c.args.self.now.pass).ran c.in_ok-letter.letter c.args.self.now.ended k e

pub invariant_of-self-then-letter-len-clause-sized : goal.invariant_of-self-then-letter-len-clause-sized
invariant_of-self-then-letter-len-clause-sized g c = length-set _ _ _ ∙ c.args.self.now.sized
