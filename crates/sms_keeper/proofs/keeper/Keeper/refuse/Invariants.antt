use Rattle.sms_keeper.specs.Groups.{IsRefusing}
use Rattle.sms_keeper.proofs.keeper.Keeper.refuse.Given as goal

abbrev pub invariant-loop : goal.invariant-loop
invariant-loop g l = record {
  refused : IsRefusing (g.C.Clock.reads l.fn.clock) g.M.Machine.gives g.M.Machine.after (g.M.Machine.is_honest l.machine)
      (g.M.Machine.fails_as l.fn.machine) (g.M.Machine.fails_as l.machine) (g.B.Recorder.has l.fn.recorder) (g.B.Recorder.has l.recorder) l.fn.self l.self;
  before : g.M.Machine.is_honest l.machine → g.M.Machine.is_honest l.fn.machine;
  broken : g.M.Machine.is_broken l.fn.machine → g.M.Machine.is_broken l.machine;
}
