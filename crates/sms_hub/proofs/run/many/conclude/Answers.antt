use Rattle.std.proofs.Common.{◌∙◌, length, sym, arith}
use Rattle.sms_hub.specs.Running.{jobs_for}
use Rattle.sms_keeper.proofs.Wholes.{none_ran}
use Rattle.sms_hub.proofs.Sessions.{at_kept, seats_kept, closed_kept, jobs_reported, answers_reported}
use Rattle.sms_hub.proofs.run.many.conclude.Goals as goal

pub settle_all-requires-clause-seats : goal.settle_all-requires-clause-seats
settle_all-requires-clause-seats g c = at_kept c.args.keeper c.know_others.new.self 0 c.args.threads.items c.know_others.ensures.keeper.hub c.requires.seats

pub settle_all-requires-clause-closed : goal.settle_all-requires-clause-closed
settle_all-requires-clause-closed g c = closed_kept c.args.keeper c.know_others.new.self c.know_others.ensures.keeper c.requires.closed

pub settle_all-requires-clause-count : goal.settle_all-requires-clause-count
settle_all-requires-clause-count g c = c.requires.count ∙ sym (seats_kept c.args.keeper c.know_others.new.self c.know_others.ensures.keeper.hub)

pub returns-in-Some-clause-jobs : goal.returns-in-Some-clause-jobs
returns-in-Some-clause-jobs g c items all = jobs_reported c.args.keeper c.know_others.new.self items (length c.args.threads.items) (jobs_for c.args.threads.items) c.know_others.ensures.keeper all c.in-Some.ensures.jobs

pub returns-in-Some-clause-others : goal.returns-in-Some-clause-others
returns-in-Some-clause-others g c items all n past = none_ran c.args.keeper items n all (c.know_others.ensures.none n (let e = c.requires.count in omega arith))

pub returns-in-Some-clause-answers : goal.returns-in-Some-clause-answers
returns-in-Some-clause-answers g c items all = answers_reported c.args.keeper c.know_others.new.self items _ _ c.know_others.ensures.keeper all c.requires.count c.in-Some.ensures.answers
