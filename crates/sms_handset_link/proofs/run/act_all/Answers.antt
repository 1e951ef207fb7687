use Rattle.std.proofs.Common.{◌≡◌, ◌+◌, List, [], ◌∷◌, ◌++◌, map, drop, refl, sym, ap, subst, ◌∙◌, append_assoc, append-nil, arith}
use Rattle.std.proofs.Math.ListN.{drop_of_length-le}
use Rattle.sms_base.proofs.Lists.{drop_item}
use Rattle.sms_handset.specs.declared.event.HandsetEvent.{HandsetEvent}
use Rattle.sms_handset_link.specs.Turns.{AreTimed}
use Rattle.sms_handset.specs.declared.event.HandsetEvent.TheVariants.{Tick}
use Rattle.sms_script.specs.declared.owner.act.OwnersAct.{OwnersAct}
use Rattle.sms_handset_link.specs.Asking.{event_of}
use Rattle.sms_handset_link.proofs.Answered.{answers_more, appends_as}
use Rattle.sms_handset_link.proofs.Courses.{appends_join, appends_none, meets_join, meets_none, meets_one, timed_more}
use Rattle.sms_handset_link.proofs.run.act_all.Goals as goal

pub loop-asked-init : goal.loop-asked-init
loop-asked-init g c = ([], [], (refl, refl, meets_none _ _, appends_none _))

pub loop-asked-preserved : goal.loop-asked-preserved
loop-asked-preserved g c =
    let before = c.loop-asked.invariant in
    let asked = c.asked-item.result in
    let behind = drop (c.loop-asked.asked-index + 1) c.args.acts.now in
    let next : drop c.loop-asked.asked-index c.args.acts.now ≡ asked ∷ behind =
    drop_item c.args.acts.now c.loop-asked.asked-index asked c.loop-asked-test.true c.asked-item.is in
    let ticked = c.in_ok-tick.ensures in
    let done = c.in_ok-act.ensures.sends in
    let met = meets_join (Tick c.now.result ∷ []) (event_of asked ∷ []) _ _ _ _ _ _
    (meets_one (Tick c.now.result) _ _ _ _ ticked.0 ticked.1.0 ticked.1.1) (meets_one (event_of asked) _ _ _ _ done.0 done.1.0 done.1.1) in (
      before.0 ++ event_of asked ∷ [],
      before.1 ++ Tick c.now.result ∷ event_of asked ∷ [],
      (
        append_assoc before.0 (event_of asked ∷ []) (map event_of behind) ∙ (ap (λ (l : List OwnersAct). before.0 ++ map event_of l) (sym next) ∙ before.2.0),
        timed_more _ before.0 before.1 c.now.result (event_of asked) before.2.1 c.now.ensures,
        meets_join before.1 (Tick c.now.result ∷ event_of asked ∷ []) _ _ _ _ _ _ before.2.2 met,
        appends_as _ _ _ _ (appends_join _ _ _ _ _ before.2.3 c.in_ok-act.ensures.answers)
            (sym (answers_more before.1 c.now.result asked _ _ _ _ _ before.2.2.1.0 ticked.1.0)),
      ),
    )

pub returns : goal.returns
returns g c =
    let l = c.loop-asked.invariant in
    let acts = c.args.acts.now in
    let all : l.0 ≡ map event_of acts =
    sym (append-nil l.0)
    ∙ (ap (λ (k : List OwnersAct). l.0 ++ map event_of k) (sym (drop_of_length-le acts (omega (arith, c.loop-asked-test.false)))) ∙ l.2.0) in
    (l.1, subst (λ (k : List HandsetEvent). AreTimed (g.C.Clock.reads c.args.clock.now) k l.1) all l.2.1, l.2.2, l.2.3)
