use Rattle.sms_hub.proofs.Lasting.{if_failed, ran_more, ran_none}
use Rattle.sms_hub.proofs.terms.run_while_open.Goals as goal

pub loop-init : goal.loop-init
loop-init g c = record {
  ran = ran_none (g.C.Clock.reads c.args.clock.now) g.M.Machine.gives g.M.Machine.after (g.M.Machine.is_honest c.args.machine.now) (λ s. g.M.Machine.stands c.args.machine.now s s)
      (g.B.Recorder.has c.args.recorder.now) c.args.keeper.now;
  before = λ honest. honest;
}

pub returns-then-closed-clause-ran : goal.returns-then-closed-clause-ran
returns-then-closed-clause-ran g c =
    ran_more (g.C.Clock.reads c.args.clock.now) g.M.Machine.gives g.M.Machine.after (g.M.Machine.is_honest c.loop.machine) (g.M.Machine.is_honest c.run_term.new.machine)
    (λ s. g.M.Machine.stands c.args.machine.now s s) (λ s. g.M.Machine.stands c.loop.machine s s) (λ s. g.M.Machine.stands c.run_term.new.machine s s)
    (g.B.Recorder.has c.args.recorder.now) (g.B.Recorder.has c.loop.recorder) (g.B.Recorder.has c.run_term.new.recorder)
    c.args.keeper.now c.loop.keeper c.run_term.new.keeper c.in_ok-closed.ensures.before c.loop.invariant.ran c.in_ok-closed.ensures.ran

pub loop-preserved : goal.loop-preserved
loop-preserved g c = record {
  ran = ran_more (g.C.Clock.reads c.args.clock.now) g.M.Machine.gives g.M.Machine.after (g.M.Machine.is_honest c.loop.machine) (g.M.Machine.is_honest c.run_term.new.machine)
      (λ s. g.M.Machine.stands c.args.machine.now s s) (λ s. g.M.Machine.stands c.loop.machine s s) (λ s. g.M.Machine.stands c.run_term.new.machine s s)
      (g.B.Recorder.has c.args.recorder.now) (g.B.Recorder.has c.loop.recorder) (g.B.Recorder.has c.run_term.new.recorder)
      c.args.keeper.now c.loop.keeper c.run_term.new.keeper c.in_ok-closed.ensures.before c.loop.invariant.ran c.in_ok-closed.ensures.ran;
  before = λ honest. c.loop.invariant.before (c.in_ok-closed.ensures.before honest);
}

pub returns-in_err-closed-clause-failed : goal.returns-in_err-closed-clause-failed
returns-in_err-closed-clause-failed g c =
    if_failed c.from_residual.result _ (ran_more (g.C.Clock.reads c.args.clock.now) g.M.Machine.gives g.M.Machine.after (g.M.Machine.is_honest c.loop.machine) (g.M.Machine.is_honest c.run_term.new.machine)
    (λ s. g.M.Machine.stands c.args.machine.now s s) (λ s. g.M.Machine.stands c.loop.machine s s) (g.M.Machine.fails_as c.run_term.new.machine)
    (g.B.Recorder.has c.args.recorder.now) (g.B.Recorder.has c.loop.recorder) (g.B.Recorder.has c.run_term.new.recorder)
    c.args.keeper.now c.loop.keeper c.run_term.new.keeper c.in_err-closed.ensures.before c.loop.invariant.ran c.in_err-closed.ensures.failed)
