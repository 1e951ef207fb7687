use Rattle.std.proofs.Common.{List, subst}
use Rattle.sms_hub.specs.Running.{SessionsRan, lists_of}
use Rattle.sms_hub.proofs.run.many.many_sessions.Goals as goal

pub returns-clause-ran : goal.returns-clause-ran
returns-clause-ran g c = subst
    (λ (lists : List (List g.row.J.Denot)). SessionsRan (g.C.Clock.reads c.args.clock.now) g.M.Machine.gives g.M.Machine.after (g.M.Machine.is_honest c.run_opened.new.machine)
    (λ s. g.M.Machine.stands c.args.machine.now s s) (λ s. g.M.Machine.stands c.run_opened.new.machine s s) (g.B.Recorder.has c.args.recorder.now) (g.B.Recorder.has c.run_opened.new.recorder)
    lists (lists_of c.in_ok-answers.answers.items)) c.in_ok-opened.ensures.jobs c.in_ok-answers.ensures.ran
