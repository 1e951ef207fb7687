use Rattle.std.proofs.Common.{◌++◌, ◌∙◌, ap}
use Rattle.sms_seats.specs.Jobs.{of}
use Rattle.sms_keeper.specs.Keeping.{ran_by}
use Rattle.sms_seats.specs.Seats.{number_of}
use Rattle.sms_keeper.proofs.Wholes.{all_ran}
use Rattle.sms_hub.proofs.run.threads.settle.Goals as goal

pub returns-clause-jobs : goal.returns-clause-jobs
returns-clause-jobs g c end = let h = c.take_back-rest.ensures.put in let s = c.join-session.ensures in let p = c.args.thread.promise in let ran = ran_by c.args.keeper.now in
    all_ran (number_of p.seat.value) p.jobs.value.items _ ran h.0 (s.1 c.if-not-whole.false) (h.1 ∙ ap (λ n. of n ran ++ h.0) s.0.number) end
