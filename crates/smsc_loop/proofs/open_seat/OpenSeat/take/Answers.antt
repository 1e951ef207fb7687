use Rattle.std.proofs.Common.{◌≡◌, List, Option, false, sym, subst}
use Rattle.sms_centre_spec.specs.declared.jobs.job.Job.{Job}
use Rattle.sms_seats.specs.Jobs.{has_end}
use Rattle.smsc_loop.proofs.Counting.{asked_kept, counted_reply, few_after, last_reply, last_vacancy}
use Rattle.smsc_loop.proofs.open_seat.OpenSeat.take.Goals as goal

pub invariant_of-self-2 : goal.invariant_of-self-2
invariant_of-self-2 g c = record {
  «open» = subst (λ (put : List (Option Job)). has_end put ≡ false) (sym c.take_answer.ensures.put) c.args.self.now.«open»;
  counted = counted_reply _ _ _ _ c.args.self.now.awaited c.args.self.now.ahead c.args.self.now.counted c.in_ok-reply.reply c.awaited_behind-self.result
      c.ahead_behind-self.result c.awaited_behind-self.ensures c.ahead_behind-self.ensures c.take_answer.ensures.put c.in_ok-reply.ensures.taken;
  few = few_after c.in_ok-reply.reply c.args.self.now.awaited c.awaited_behind-self.result c.awaited_behind-self.ensures c.args.self.now.few;
  asked = asked_kept _ _ _ c.args.self.now.asked c.take_answer.ensures.put;
  answered = last_reply _ _ c.in_ok-reply.reply c.is_answer-self.result c.is_answer-self.ensures c.in_ok-reply.ensures.taken;
  vacant = last_vacancy _ _ c.in_ok-reply.reply c.is_vacancy-self.result c.is_vacancy-self.ensures c.in_ok-reply.ensures.taken;
}
