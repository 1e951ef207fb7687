use Rattle.std.proofs.Common.{◌≡◌, ◌∙◌, ◌+◌, ◌∷◌, List, ℕ, add-one, ap, arith, drop, drop-cons, subst, suc, sym}
use Rattle.std.proofs.lemmas.List.{drop_all}
use Rattle.sms_script.specs.declared.event.WorldEvent.{WorldEvent}
use Rattle.sms_world.specs.headline.TypedEvents.{AreTyped}
use Rattle.sms_world.proofs.running.typing.are_typed.Goals as goal

pub loop-event-init : goal.loop-event-init
loop-event-init c = λ typed. typed

pub loop-event-preserved : goal.loop-event-preserved
loop-event-preserved c = λ later.
    let rest : drop c.loop-event.event-index c.args.events.now ≡ c.event-item.result ∷ drop (c.loop-event.event-index + 1) c.args.events.now =
    drop-cons c.args.events.now c.loop-event.event-index c.event-item.result c.loop-event-test.true
    ∙ ap (λ (e : WorldEvent). e ∷ drop (suc c.loop-event.event-index) c.args.events.now) (sym c.event-item.is)
    ∙ ap (λ (n : ℕ). c.event-item.result ∷ drop n c.args.events.now) (sym (add-one c.loop-event.event-index)) in
    c.loop-event.invariant
    (subst (λ (es : List WorldEvent). AreTyped es) (sym rest) (record { good = (c.is_typed.ensures.good, later.good); texts = (c.is_typed.ensures.text, later.texts) }))

pub returns : goal.returns
returns c =
    c.loop-event.invariant
    (subst (λ (es : List WorldEvent). AreTyped es) (sym (drop_all c.loop-event.event-index c.args.events.now (omega (arith, c.loop-event-test.false)))) (record { good = tt; texts = tt }))
