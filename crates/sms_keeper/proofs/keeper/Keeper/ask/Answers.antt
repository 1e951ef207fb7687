use Rattle.std.proofs.Common.{[], ◌∷◌, sym, refl, append-nil, lit≤, true≢false}
use Rattle.sms_keeper.specs.declared.machine.Stimulus.TheVariants.{Own, Tick}
use Rattle.sms_keeper.proofs.Holdings.{fate_matches, holding_one, two_ways_one}
use Rattle.sms_keeper.proofs.Stretches.{same_self}
use Rattle.sms_keeper.proofs.keeper.Keeper.ask.Goals as goal

pub returns-then-is_due-clause-asked : goal.returns-then-is_due-clause-asked
returns-then-is_due-clause-asked g c = let k = c.hold-fate.ensures in let e = k.item.0 in let now = c.now-now.result in record {
  more = e ∷ [];
  written = k.item.1;
  most = lit≤ tt;
  matches = fate_matches c.hold-fate.result e k.item.3;
  did = holding_one (g.C.Clock.reads c.args.clock.now) _ _ (Tick now) e k.item.2 (same_self c.args.self.now) (λ n. refl) (sym (append-nil _)) refl
      (c.if-is_due.ensures.0 refl, c.now-now.ensures);
  led = λ honest. two_ways_one g.M.Machine.gives g.M.Machine.after c.hold-fate.result (g.M.Machine.stands c.args.machine.now) (g.M.Machine.stands c.hold-fate.new.machine)
      (g.M.Machine.resumes c.hold-fate.new.machine) (Tick now) e k.item.2 k.item.3 (k.item.4 honest);
}

pub returns-in-Some-clause-asked : goal.returns-in-Some-clause-asked
returns-in-Some-clause-asked g c = let k = c.hold-fate-in-Some.ensures in let e = k.item.0 in let errand = c.in-Some.errand in record {
  more = e ∷ [];
  written = k.item.1;
  most = lit≤ tt;
  matches = fate_matches c.hold-fate-in-Some.result e k.item.3;
  did = holding_one (g.C.Clock.reads c.args.clock.now) _ _ (Own errand) e k.item.2 (same_self c.args.self.now) (λ n. refl) (sym (append-nil _)) refl
      (c.now-now.result, c.now-now.ensures, λ later. true≢false (sym (c.if-is_due.ensures.1 later)));
  led = λ honest. two_ways_one g.M.Machine.gives g.M.Machine.after c.hold-fate-in-Some.result (g.M.Machine.stands c.args.machine.now) (g.M.Machine.stands c.hold-fate-in-Some.new.machine)
      (g.M.Machine.resumes c.hold-fate-in-Some.new.machine) (Own errand) e k.item.2 k.item.3 (k.item.4 honest);
}
