use Rattle.sms_keeper.specs.declared.keeper.End.TheVariants.{AllClosed}
use Rattle.sms_keeper.specs.Groups.{Between, IsTerm}
use Rattle.sms_keeper.proofs.keeper.Keeper.run.Given as goal

abbrev pub invariant-loop : goal.invariant-loop
invariant-loop g l = record {
  term : IsTerm (g.C.Clock.reads l.fn.clock) g.M.Machine.gives g.M.Machine.after (g.M.Machine.is_honest l.machine)
      (Between (g.M.Machine.stands l.fn.machine)) (Between (g.M.Machine.stands l.machine)) (g.M.Machine.resumes l.machine)
      (g.B.Recorder.has l.fn.recorder) (g.B.Recorder.has l.recorder) l.fn.self l.self AllClosed;
  before : g.M.Machine.is_honest l.machine → g.M.Machine.is_honest l.fn.machine;
}
