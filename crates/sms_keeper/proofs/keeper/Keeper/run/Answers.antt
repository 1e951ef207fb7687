use Rattle.sms_keeper.proofs.Holdings.{term_last, term_more, term_none}
use Rattle.sms_keeper.proofs.keeper.Keeper.run.Goals as goal

pub loop-init : goal.loop-init
loop-init g c = record {
  term = term_none (g.C.Clock.reads c.args.clock.now) g.M.Machine.gives g.M.Machine.after (g.M.Machine.is_honest c.args.machine.now) (λ s. g.M.Machine.stands c.args.machine.now s s)
      (g.M.Machine.resumes c.args.machine.now) (g.B.Recorder.has c.args.recorder.now) c.args.self.now;
  before = λ honest. honest;
}

pub loop-preserved-then-group : goal.loop-preserved-then-group
loop-preserved-then-group g c = let l = c.loop.invariant in let h = c.run_group-group.ensures in record {
  term = term_more (g.C.Clock.reads c.args.clock.now) g.M.Machine.gives g.M.Machine.after _ _ _ _ _ _ _ _ _ _ _ _ _ c.run_group-group.result.fate h.before l.term h.group c.in_default.not-Refused;
  before = λ honest. l.before (h.before honest);
}

pub loop-preserved : goal.loop-preserved
loop-preserved g c = let l = c.loop.invariant in let h = c.run_group-group.ensures in record {
  term = term_more (g.C.Clock.reads c.args.clock.now) g.M.Machine.gives g.M.Machine.after _ _ _ _ _ _ _ _ _ _ _ _ _ c.run_group-group.result.fate h.before l.term h.group c.in_default.not-Refused;
  before = λ honest. l.before (h.before honest);
}

pub returns-in-Refused-clause-term : goal.returns-in-Refused-clause-term
returns-in-Refused-clause-term g c = let l = c.loop.invariant in let h = c.run_group-group.ensures in
    term_last (g.C.Clock.reads c.args.clock.now) g.M.Machine.gives g.M.Machine.after _ _ _ _ _ _ _ _ _ _ _ _ _ c.run_group-group.result.fate h.before l.term h.group c.in-Refused.is
