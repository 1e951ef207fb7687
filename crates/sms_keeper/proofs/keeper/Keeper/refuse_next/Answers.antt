use Rattle.std.proofs.Common.{◌++◌, ◌∙◌, ap, sym, refl, append-nil, true≢false}
use Rattle.sms_keeper.specs.declared.machine.Stimulus.TheVariants.{Job, Tick}
use Rattle.sms_keeper.specs.History.{work, job_of}
use Rattle.sms_keeper.specs.Keeping.{ran_by}
use Rattle.sms_keeper.proofs.Histories.{work_snoc}
use Rattle.sms_keeper.proofs.Refusals.{refusing_idle, refusing_one, stretch_one}
use Rattle.sms_keeper.proofs.Stretches.{same_self}
use Rattle.sms_keeper.proofs.keeper.Keeper.refuse_next.Goals as goal

pub returns-then-is_due-clause-refused : goal.returns-then-is_due-clause-refused
returns-then-is_due-clause-refused g c = let k = c.refuse_item.ensures in let e = k.item.0 in let now = c.now-now.result in let a = c.args.self.now in
    refusing_one (g.C.Clock.reads c.args.clock.now) g.M.Machine.gives g.M.Machine.after (g.M.Machine.is_honest c.refuse_item.new.machine)
    (g.M.Machine.fails_as c.args.machine.now) (g.M.Machine.fails_as c.refuse_item.new.machine) (g.B.Recorder.has c.args.recorder.now) (g.B.Recorder.has c.refuse_item.new.recorder)
    a _ (Tick now) e k.item.1 k.item.2
    (stretch_one (g.C.Clock.reads c.args.clock.now) a a _ (Tick now) e k.item.1 (same_self a) (λ n. refl) (sym (append-nil _)) k.same k.ran k.item.3 refl
    (c.if-is_due.ensures.0 refl, c.now-now.ensures)) k.item.4 k.item.5

pub returns-in-Some-job-clause-refused : goal.returns-in-Some-job-clause-refused
returns-in-Some-job-clause-refused g c = let h = c.in-Some.ensures in let k = c.refuse_item-in-Some-job.ensures in let e = k.item.0 in let x = c.in-Some.letter in let a = c.args.self.now in
    let before = ran_by a in let stimulus = Job x.seat c.in-Some-job.job in
    refusing_one (g.C.Clock.reads c.args.clock.now) g.M.Machine.gives g.M.Machine.after (g.M.Machine.is_honest c.refuse_item-in-Some-job.new.machine)
    (g.M.Machine.fails_as c.args.machine.now) (g.M.Machine.fails_as c.refuse_item-in-Some-job.new.machine) (g.B.Recorder.has c.args.recorder.now) (g.B.Recorder.has c.refuse_item-in-Some-job.new.recorder)
    a _ stimulus e k.item.1 k.item.2
    (stretch_one (g.C.Clock.reads c.args.clock.now) a (record a { queues = c.pop.new.self }) _ stimulus e k.item.1 h.same h.given
    (ap work h.ran ∙ work_snoc before x ∙ ap (λ o. work before ++ job_of x.seat o) c.in-Some-job.is) k.same k.ran k.item.3 refl
    (c.now-now.result, c.now-now.ensures, λ later. true≢false (sym (c.if-is_due.ensures.1 later)))) k.item.4 k.item.5

pub returns-in-None-job-clause-refused : goal.returns-in-None-job-clause-refused
returns-in-None-job-clause-refused g c = let h = c.in-Some.ensures in
    refusing_idle (g.C.Clock.reads c.args.clock.now) g.M.Machine.gives g.M.Machine.after (g.M.Machine.is_honest c.args.machine.now) (g.M.Machine.fails_as c.args.machine.now)
    (g.B.Recorder.has c.args.recorder.now) c.args.self.now _ h.same h.given refl
    (ap work h.ran ∙ work_snoc (ran_by c.args.self.now) c.in-Some.letter ∙ ap (λ o. work (ran_by c.args.self.now) ++ job_of c.in-Some.letter.seat o) c.in-None-job.is ∙ append-nil _)

pub returns-in-None-clause-refused : goal.returns-in-None-clause-refused
returns-in-None-clause-refused g c = let h = c.in-None.ensures in
    refusing_idle (g.C.Clock.reads c.args.clock.now) g.M.Machine.gives g.M.Machine.after (g.M.Machine.is_honest c.args.machine.now) (g.M.Machine.fails_as c.args.machine.now)
    (g.B.Recorder.has c.args.recorder.now) c.args.self.now _ h.same h.given refl (ap work h.ran)
