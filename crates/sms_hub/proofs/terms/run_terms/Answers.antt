use Rattle.sms_hub.proofs.Lasting.{ran_more, ran_refusing}
use Rattle.sms_hub.proofs.terms.run_terms.Goals as goal

pub returns-in-Err-clause-failed : goal.returns-in-Err-clause-failed
returns-in-Err-clause-failed g c =
    ran_more (g.C.Clock.reads c.args.clock.now) g.M.Machine.gives g.M.Machine.after (g.M.Machine.is_honest c.run_while_open.new.machine) (g.M.Machine.is_honest c.refuse.new.machine)
    (λ s. g.M.Machine.stands c.args.machine.now s s) (g.M.Machine.fails_as c.run_while_open.new.machine) (g.M.Machine.fails_as c.refuse.new.machine)
    (g.B.Recorder.has c.args.recorder.now) (g.B.Recorder.has c.run_while_open.new.recorder) (g.B.Recorder.has c.refuse.new.recorder)
    c.args.keeper.now c.run_while_open.new.keeper c.refuse.new.self c.refuse.ensures.before c.in-Err.ensures.failed
    (ran_refusing (g.C.Clock.reads c.args.clock.now) g.M.Machine.gives g.M.Machine.after (g.M.Machine.is_honest c.refuse.new.machine)
    (g.M.Machine.fails_as c.run_while_open.new.machine) (g.M.Machine.fails_as c.refuse.new.machine)
    (g.B.Recorder.has c.run_while_open.new.recorder) (g.B.Recorder.has c.failed.new.self) (g.B.Recorder.has c.refuse.new.recorder)
    c.run_while_open.new.keeper c.refuse.new.self c.failed.ensures c.refuse.ensures.refused)
