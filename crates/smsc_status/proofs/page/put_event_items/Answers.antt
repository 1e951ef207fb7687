use Rattle.std.proofs.Common.{ℕ, List, ◌++◌, take, sym, ap, ◌∙◌}
use Rattle.std.specs.Prelude.{flat_map, reverse, string_bytes}
use Rattle.smsc_status.specs.Page.{event_item}
use Rattle.smsc_status.proofs.Chains.{next}
use Rattle.smsc_status.proofs.Elements.{one_more_event}
use Rattle.smsc_status.proofs.page.put_event_items.Goals as goal

pub loop-i-preserved : goal.loop-i-preserved
loop-i-preserved c =
    let events = c.args.events.now in
    let i = c.loop-i.i in
    let so_far : List ℕ = flat_map (λ event. event_item (string_bytes event)) (take i (reverse events)) in
    next c.args.out.now so_far (event_item c.as_str.result.now) c.loop-i.invariant c.in_ok-put_event.ensures
    ∙ ap (λ t. c.args.out.now ++ t)
    (ap (λ text. so_far ++ event_item text) (c.as_str.ensures.value ∙ ap string_bytes c.index-events-count.is)
    ∙ sym (one_more_event events i c.index-events-count.result c.loop-i-test.true))
