use Rattle.std.proofs.Common.{◌∙◌, length, sym}
use Rattle.sms_keeper.proofs.Wholes.{all_did}
use Rattle.sms_hub.proofs.Sessions.{at_kept, seats_kept, sessions_ran}
use Rattle.sms_hub.proofs.run.many.run_opened.Goals as goal

pub conclude-requires-clause-seats : goal.conclude-requires-clause-seats
conclude-requires-clause-seats g c = at_kept c.args.opened.keeper c.run_terms.new.keeper 0 c.args.opened.threads.items c.in-Ok.ensures.ran.did.hub c.requires.seats

pub conclude-requires-clause-count : goal.conclude-requires-clause-count
conclude-requires-clause-count g c = sym (seats_kept c.args.opened.keeper c.run_terms.new.keeper c.in-Ok.ensures.ran.did.hub ∙ c.requires.keeper.seats)

pub returns-in_ok-answers-in-Ok-clause-ran : goal.returns-in_ok-answers-in-Ok-clause-ran
returns-in_ok-answers-in-Ok-clause-ran g c = let ran = c.in-Ok.ensures.ran in
    let all = all_did (g.C.Clock.reads c.args.clock.now) c.args.opened.keeper c.run_terms.new.keeper ran.items (length c.args.opened.threads.items) c.requires.keeper ran.did c.run_terms.ensures.closed in
    sessions_ran (g.C.Clock.reads c.args.clock.now) g.M.Machine.gives g.M.Machine.after (g.M.Machine.is_honest c.run_terms.new.machine)
    (λ s. g.M.Machine.stands c.args.machine.now s s) (λ s. g.M.Machine.stands c.run_terms.new.machine s s) (g.B.Recorder.has c.args.recorder.now) (g.B.Recorder.has c.run_terms.new.recorder)
    c.args.opened.keeper c.run_terms.new.keeper (length c.args.opened.threads.items) c.args.opened.threads.items c.in_ok-answers-in-Ok.answers.items c.requires.keeper ran
    (c.in_ok-answers-in-Ok.ensures.jobs ran.items all) (c.in_ok-answers-in-Ok.ensures.others ran.items all) (c.in_ok-answers-in-Ok.ensures.answers ran.items all)
