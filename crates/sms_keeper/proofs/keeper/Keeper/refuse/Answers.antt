use Rattle.sms_keeper.proofs.Refusals.{refusing_more, refusing_none}
use Rattle.sms_keeper.proofs.keeper.Keeper.refuse.Goals as goal

pub loop-init : goal.loop-init
loop-init g c = record {
  refused = refusing_none (g.C.Clock.reads c.args.clock.now) g.M.Machine.gives g.M.Machine.after (g.M.Machine.is_honest c.args.machine.now)
      (g.M.Machine.fails_as c.args.machine.now) (g.B.Recorder.has c.args.recorder.now) c.args.self.now;
  before = λ honest. honest;
  broken = λ broken. broken;
}

pub loop-preserved : goal.loop-preserved
loop-preserved g c = let l = c.loop.invariant in let h = c.refuse_next.ensures in record {
  refused = refusing_more (g.C.Clock.reads c.args.clock.now) g.M.Machine.gives g.M.Machine.after _ _ _ _ _ _ _ _ _ _ _ h.before l.refused h.refused;
  before = λ honest. l.before (h.before honest);
  broken = λ broken. h.broken (l.broken broken);
}

pub loop-preserved-then-not-refuse_next : goal.loop-preserved-then-not-refuse_next
loop-preserved-then-not-refuse_next g c = let l = c.loop.invariant in let h = c.refuse_next.ensures in record {
  refused = refusing_more (g.C.Clock.reads c.args.clock.now) g.M.Machine.gives g.M.Machine.after _ _ _ _ _ _ _ _ _ _ _ h.before l.refused h.refused;
  before = λ honest. l.before (h.before honest);
  broken = λ broken. h.broken (l.broken broken);
}
