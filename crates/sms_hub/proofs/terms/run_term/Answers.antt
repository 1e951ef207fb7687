use Rattle.sms_hub.proofs.Lasting.{ran_closed, ran_refused}
use Rattle.sms_hub.proofs.terms.run_term.Goals as goal

pub returns-in-AllClosed-clause-ran : goal.returns-in-AllClosed-clause-ran
returns-in-AllClosed-clause-ran g c =
    ran_closed (g.C.Clock.reads c.args.clock.now) g.M.Machine.gives g.M.Machine.after (g.M.Machine.is_honest c.run-end.new.machine) (λ s. g.M.Machine.stands c.args.machine.now s s)
    (λ s. g.M.Machine.stands c.run-end.new.machine s s) (g.M.Machine.resumes c.run-end.new.machine) (g.B.Recorder.has c.args.recorder.now) (g.B.Recorder.has c.run-end.new.recorder)
    c.args.keeper.now c.run-end.new.self c.run-end.result c.in-AllClosed.is c.run-end.ensures.term

pub returns-in-Ok-clause-ran : goal.returns-in-Ok-clause-ran
returns-in-Ok-clause-ran g c =
    ran_refused (g.C.Clock.reads c.args.clock.now) g.M.Machine.gives g.M.Machine.after (g.M.Machine.is_honest c.run-end.new.machine) (g.M.Machine.is_honest c.reopen.new.self)
    (λ s. g.M.Machine.stands c.args.machine.now s s) (λ s. g.M.Machine.stands c.run-end.new.machine s s) (g.M.Machine.resumes c.run-end.new.machine) (λ s. g.M.Machine.stands c.reopen.new.self s s)
    (g.B.Recorder.has c.args.recorder.now) (g.B.Recorder.has c.run-end.new.recorder) (g.B.Recorder.has c.reopened.new.self)
    c.args.keeper.now c.run-end.new.self c.run-end.result c.in-Refused.is c.reopen.ensures.before c.run-end.ensures.term c.in-Ok.ensures.ok c.reopened.ensures

pub returns-in-Err-clause-failed : goal.returns-in-Err-clause-failed
returns-in-Err-clause-failed g c =
    ran_refused (g.C.Clock.reads c.args.clock.now) g.M.Machine.gives g.M.Machine.after (g.M.Machine.is_honest c.run-end.new.machine) (g.M.Machine.is_honest c.reopen.new.self)
    (λ s. g.M.Machine.stands c.args.machine.now s s) (λ s. g.M.Machine.stands c.run-end.new.machine s s) (g.M.Machine.resumes c.run-end.new.machine) (g.M.Machine.fails_as c.reopen.new.self)
    (g.B.Recorder.has c.args.recorder.now) (g.B.Recorder.has c.run-end.new.recorder) (g.B.Recorder.has c.run-end.new.recorder)
    c.args.keeper.now c.run-end.new.self c.run-end.result c.in-Refused.is c.reopen.ensures.before c.run-end.ensures.term c.in-Err.ensures.fails (λ items told. told)
