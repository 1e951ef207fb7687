use Rattle.std.proofs.Common.{◌++◌, ◌∙◌, List, ap, refl, subst, sym, arith}
use Rattle.sms_keeper.specs.declared.keeper.HeldItem.{HeldItem}
use Rattle.sms_keeper.specs.Groups.{LeadsTwoWays, StandsBy}
use Rattle.sms_keeper.proofs.Holdings.{holding_more, length_more, more_than_none, reserved, two_ways_more, two_ways_with, went_more}
use Rattle.sms_keeper.proofs.Stretches.{fate_ended, fate_went}
use Rattle.sms_keeper.proofs.keeper.Keeper.gather.Goals as goal

pub loop-asked-preserved : goal.loop-asked-preserved
loop-asked-preserved g c = let h = c.ask-next.ensures.asked in let l = c.loop-asked.invariant in let e = h.written ∙ ap (λ x. x ++ h.more) c.reserve.ensures.items in
    let now = c.ask-next.new.machine in let fate = c.ask-next.result.fate in let went = c.in_default.not-Refused in record {
      holding = holding_more (g.C.Clock.reads c.args.clock.now) c.args.self.now c.loop-asked.self c.ask-next.new.self c.loop-asked.held.items h.more c.ask-next.new.held.items l.holding h.did e;
      led = λ honest. two_ways_more g.M.Machine.gives g.M.Machine.after (g.M.Machine.stands c.args.machine.now) c.loop-asked.held.items (g.M.Machine.stands c.loop-asked.machine) h.more c.ask-next.new.held.items
          (g.M.Machine.stands now) (l.led (c.ask-next.ensures.before honest))
          (two_ways_with g.M.Machine.gives g.M.Machine.after (g.M.Machine.stands c.loop-asked.machine) (StandsBy fate (g.M.Machine.stands now) (g.M.Machine.resumes now)) (g.M.Machine.stands now) h.more
          (λ t u. fate_went fate (g.M.Machine.stands now t u) (g.M.Machine.resumes now u) went) (h.led honest)) e;
      went = went_more c.loop-asked.held.items h.more c.ask-next.new.held.items e l.went (fate_went fate _ _ went h.matches);
      most = length_more c.loop-asked.held.items h.more c.ask-next.new.held.items c.loop-asked.asked _ e l.most h.most refl;
      before = λ honest. l.before (c.ask-next.ensures.before honest);
    }

pub returns-then-not-next : goal.returns-then-not-next
returns-then-not-next g c = let h = c.ask-next.ensures.asked in let l = c.loop-asked.invariant in let e = h.written ∙ ap (λ x. x ++ h.more) c.reserve.ensures.items in
    let now = c.ask-next.new.machine in let fate = c.ask-next.result.fate in let went = c.in_default.not-Refused in record {
      holding = holding_more (g.C.Clock.reads c.args.clock.now) c.args.self.now c.loop-asked.self c.ask-next.new.self c.loop-asked.held.items h.more c.ask-next.new.held.items l.holding h.did e;
      led = λ honest. two_ways_more g.M.Machine.gives g.M.Machine.after (g.M.Machine.stands c.args.machine.now) c.loop-asked.held.items (g.M.Machine.stands c.loop-asked.machine) h.more c.ask-next.new.held.items
          (g.M.Machine.stands now) (l.led (c.ask-next.ensures.before honest))
          (two_ways_with g.M.Machine.gives g.M.Machine.after (g.M.Machine.stands c.loop-asked.machine) (StandsBy fate (g.M.Machine.stands now) (g.M.Machine.resumes now)) (g.M.Machine.stands now) h.more
          (λ t u. fate_went fate (g.M.Machine.stands now t u) (g.M.Machine.resumes now u) went) (h.led honest)) e;
      matches = went_more c.loop-asked.held.items h.more c.ask-next.new.held.items e l.went (fate_went fate _ _ went h.matches);
      most = let k = length_more c.loop-asked.held.items h.more c.ask-next.new.held.items c.loop-asked.asked _ e l.most h.most refl in omega arith;
      before = λ honest. l.before (c.ask-next.ensures.before honest);
    }

pub returns-in-Refused-clause-holding : goal.returns-in-Refused-clause-holding
returns-in-Refused-clause-holding g c = let h = c.ask-next.ensures.asked in let l = c.loop-asked.invariant in
    holding_more (g.C.Clock.reads c.args.clock.now) c.args.self.now c.loop-asked.self c.ask-next.new.self c.loop-asked.held.items h.more c.ask-next.new.held.items l.holding h.did
    (h.written ∙ ap (λ x. x ++ h.more) c.reserve.ensures.items)

pub returns-in-Refused-clause-led : goal.returns-in-Refused-clause-led
returns-in-Refused-clause-led g c = λ honest. let h = c.ask-next.ensures.asked in let l = c.loop-asked.invariant in
    let now = c.ask-next.new.machine in let fate = c.ask-next.result.fate in
    two_ways_more g.M.Machine.gives g.M.Machine.after (g.M.Machine.stands c.args.machine.now) c.loop-asked.held.items (g.M.Machine.stands c.loop-asked.machine) h.more c.ask-next.new.held.items
    (λ t u. g.M.Machine.resumes now u) (l.led (c.ask-next.ensures.before honest))
    (two_ways_with g.M.Machine.gives g.M.Machine.after (g.M.Machine.stands c.loop-asked.machine) (StandsBy fate (g.M.Machine.stands now) (g.M.Machine.resumes now)) (λ t u. g.M.Machine.resumes now u) h.more
    (λ t u. fate_ended fate (g.M.Machine.stands now t u) (g.M.Machine.resumes now u) c.in-Refused.is) (h.led honest))
    (h.written ∙ ap (λ x. x ++ h.more) c.reserve.ensures.items)

pub returns-in-Refused-clause-most : goal.returns-in-Refused-clause-most
returns-in-Refused-clause-most g c = let h = c.ask-next.ensures.asked in let l = c.loop-asked.invariant in
    let k = length_more c.loop-asked.held.items h.more c.ask-next.new.held.items c.loop-asked.asked _ (h.written ∙ ap (λ x. x ++ h.more) c.reserve.ensures.items) l.most h.most refl in omega arith

pub returns-in-Refused-clause-matches : goal.returns-in-Refused-clause-matches
returns-in-Refused-clause-matches g c = let h = c.ask-next.ensures.asked in
    more_than_none c.loop-asked.held.items h.more c.ask-next.new.held.items (h.written ∙ ap (λ x. x ++ h.more) c.reserve.ensures.items)
    (fate_ended c.ask-next.result.fate _ _ c.in-Refused.is h.matches)

pub returns-then-is_err-clause-led : goal.returns-then-is_err-clause-led
returns-then-is_err-clause-led g c = λ honest. subst
    (λ (l : List (HeldItem g.row.J.Denot g.row.O.Denot)). LeadsTwoWays g.M.Machine.gives g.M.Machine.after (g.M.Machine.stands c.args.machine.now) l (g.M.Machine.stands c.loop-asked.machine))
    (sym c.reserve.ensures.items) (c.loop-asked.invariant.led honest)

pub ask-next-requires : goal.ask-next-requires
ask-next-requires g c = let room = reserved c.reserve.result c.is_err.result _ c.is_err.ensures.negation c.if-is_err.false c.reserve.ensures.ok in record { room = omega (arith, room) }
