use Rattle.sms_hub.specs.Lasting.{Ran}
use Rattle.sms_hub.proofs.terms.run_while_open.Given as goal

abbrev pub invariant-loop : goal.invariant-loop
invariant-loop g l = record {
  ran : Ran (g.C.Clock.reads l.fn.clock) g.M.Machine.gives g.M.Machine.after (g.M.Machine.is_honest l.machine) (λ s. g.M.Machine.stands l.fn.machine s s) (λ s. g.M.Machine.stands l.machine s s)
      (g.B.Recorder.has l.fn.recorder) (g.B.Recorder.has l.recorder) l.fn.keeper l.keeper;
  before : g.M.Machine.is_honest l.machine → g.M.Machine.is_honest l.fn.machine;
}
