use Rattle.std.proofs.Common.{◌≤◌, [], true, false, lit≤, refl, subst, sym}
use Rattle.sms_keeper.specs.Groups.{as_items, StandsBy}
use Rattle.sms_keeper.proofs.Holdings.{as_many, is_refused, leads_idle, leads_refused, leads_settled, none_there, not_refused, refused_so, settled_so, some_there, stretch_idle, stretch_of, told_none}
use Rattle.sms_keeper.proofs.Stretches.{fate_went}
use Rattle.sms_keeper.proofs.keeper.Keeper.run_group.Goals as goal

pub returns-then-settle-clause-group : goal.returns-then-settle-clause-group
returns-then-settle-clause-group g c = let held = c.gather-held.result.held.items in let fate = c.gather-held.result.fate in let h = c.gather-held.ensures in let x = c.release.ensures in
    let asked = c.gather-held.new.machine in let now = c.settle.new.machine in record {
      items = as_items true held;
      most = subst (λ n. n ≤ 64) (sym (as_many true held)) h.most;
      matches = fate_went fate _ _ (c.settle.ensures.went c.if-settle.true) h.matches;
      did = stretch_of (g.C.Clock.reads c.args.clock.now) true c.args.self.now c.gather-held.new.self _ held h.holding x.same x.ran x.given refl;
      led = λ honest. leads_settled g.M.Machine.gives g.M.Machine.after (g.M.Machine.stands c.args.machine.now) (StandsBy fate (g.M.Machine.stands asked) (g.M.Machine.resumes asked))
          (λ s. g.M.Machine.stands now s s) held (h.led (c.settle.ensures.before honest))
          (λ s r stands. settled_so c.settle.result (g.M.Machine.stands now s s) (g.M.Machine.resumes now r) c.if-settle.true (c.settle.ensures.settled honest s r stands));
      recorded = x.told;
    }

pub returns-clause-group : goal.returns-clause-group
returns-clause-group g c = let held = c.gather-held.result.held.items in let fate = c.gather-held.result.fate in let h = c.gather-held.ensures in let x = c.release-2.ensures in
    let asked = c.gather-held.new.machine in let now = c.settle.new.machine in record {
      items = as_items false held;
      most = subst (λ n. n ≤ 64) (sym (as_many false held)) h.most;
      matches = is_refused held (some_there held c.as_slice.result.now c.is_empty.result c.as_slice.ensures.value c.is_empty.ensures c.if-is_empty.false);
      did = stretch_of (g.C.Clock.reads c.args.clock.now) false c.args.self.now c.gather-held.new.self _ held h.holding x.same x.ran x.given refl;
      led = λ honest. leads_refused g.M.Machine.gives g.M.Machine.after (g.M.Machine.stands c.args.machine.now) (StandsBy fate (g.M.Machine.stands asked) (g.M.Machine.resumes asked))
          (g.M.Machine.resumes now) held (h.led (c.settle.ensures.before honest))
          (λ s r stands. refused_so c.settle.result (g.M.Machine.stands now s s) (g.M.Machine.resumes now r) c.if-settle.false (c.settle.ensures.settled honest s r stands));
      recorded = x.told;
    }

pub returns-then-is_empty-clause-group : goal.returns-then-is_empty-clause-group
returns-then-is_empty-clause-group g c = let held = c.gather-held.result.held.items in let fate = c.gather-held.result.fate in let h = c.gather-held.ensures in
    let now = c.gather-held.new.machine in let none = none_there held c.as_slice.result.now c.is_empty.result c.as_slice.ensures.value c.is_empty.ensures c.if-is_empty.true in record {
      items = [];
      most = lit≤ tt;
      matches = tt;
      did = stretch_idle (g.C.Clock.reads c.args.clock.now) c.args.self.now c.gather-held.new.self held none h.holding;
      led = λ honest. leads_idle g.M.Machine.gives g.M.Machine.after fate (g.M.Machine.stands c.args.machine.now) (g.M.Machine.stands now) (g.M.Machine.resumes now) held none
          (not_refused fate _ held none h.matches) (h.led honest);
      recorded = λ told has. told_none told (g.B.Recorder.has c.args.recorder.now) has;
    }

pub returns-then-settle-clause-before : goal.returns-then-settle-clause-before
returns-then-settle-clause-before g c honest = c.gather-held.ensures.before (c.settle.ensures.before honest)

pub returns-clause-before : goal.returns-clause-before
returns-clause-before g c honest = c.gather-held.ensures.before (c.settle.ensures.before honest)
