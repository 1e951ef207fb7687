use Rattle.std.proofs.Common.{[], ◌∷◌, ◌++◌, ◌∙◌, ap, sym, refl, append-nil, lit≤}
use Rattle.sms_keeper.specs.declared.machine.Stimulus.TheVariants.{Job}
use Rattle.sms_keeper.specs.History.{work, job_of}
use Rattle.sms_keeper.specs.Keeping.{ran_by}
use Rattle.sms_keeper.proofs.Histories.{work_snoc}
use Rattle.sms_keeper.proofs.Holdings.{fate_matches, holding_none, holding_one, two_ways_none, two_ways_one}
use Rattle.sms_keeper.proofs.keeper.Keeper.serve.Goals as goal

pub returns-in-None-job-clause-asked : goal.returns-in-None-job-clause-asked
returns-in-None-job-clause-asked g c = let h = c.in-Some.ensures in record {
  more = [];
  written = sym (append-nil _);
  most = lit≤ tt;
  matches = tt;
  did = holding_none (g.C.Clock.reads c.args.clock.now) _ _ h.same h.given refl
      (ap work h.ran ∙ work_snoc (ran_by c.args.self.now) c.in-Some.letter ∙ ap (λ o. work (ran_by c.args.self.now) ++ job_of c.in-Some.letter.seat o) c.in-None-job.is ∙ append-nil _);
  led = λ honest. two_ways_none g.M.Machine.gives g.M.Machine.after (g.M.Machine.stands c.args.machine.now);
}

pub returns-in-None-clause-asked : goal.returns-in-None-clause-asked
returns-in-None-clause-asked g c = let h = c.in-None.ensures in record {
  more = [];
  written = sym (append-nil _);
  most = lit≤ tt;
  matches = tt;
  did = holding_none (g.C.Clock.reads c.args.clock.now) _ _ h.same h.given refl (ap work h.ran);
  led = λ honest. two_ways_none g.M.Machine.gives g.M.Machine.after (g.M.Machine.stands c.args.machine.now);
}

pub returns-in-Some-job-clause-asked : goal.returns-in-Some-job-clause-asked
returns-in-Some-job-clause-asked g c = let h = c.in-Some.ensures in let k = c.hold-fate.ensures in let e = k.item.0 in
    let before = ran_by c.args.self.now in let x = c.in-Some.letter in record {
      more = e ∷ [];
      written = k.item.1;
      most = lit≤ tt;
      matches = fate_matches c.hold-fate.result e k.item.3;
      did = holding_one (g.C.Clock.reads c.args.clock.now) _ _ (Job x.seat c.in-Some-job.job) e k.item.2 h.same h.given
          (ap work h.ran ∙ work_snoc before x ∙ ap (λ o. work before ++ job_of x.seat o) c.in-Some-job.is) refl (c.args.now, c.requires.clock, c.requires.not_due);
      led = λ honest. two_ways_one g.M.Machine.gives g.M.Machine.after c.hold-fate.result (g.M.Machine.stands c.args.machine.now) (g.M.Machine.stands c.hold-fate.new.machine)
          (g.M.Machine.resumes c.hold-fate.new.machine) (Job x.seat c.in-Some-job.job) e k.item.2 k.item.3 (k.item.4 honest);
    }
