use Rattle.std.proofs.lemmas.Result.{on_ok_weaker}
use Rattle.std.specs.Prelude.{codes, flat_map, reverse, string_bytes}
use Rattle.smsc_status.specs.Page.{event_item, events_begin, events_end, events_list, lost_text}
use Rattle.smsc_status.proofs.Chains.{chain5}
use Rattle.smsc_status.proofs.page.put_events.Goals as goal

pub returns : goal.returns
unfolding events_list
returns c =
    let v = c.args.view.now in
    on_ok_weaker c.put_lost-2.result
    (λ e. chain5 c.args.out.now
    events_begin (flat_map (λ event. event_item (string_bytes event)) (reverse v.events.now)) events_end (lost_text (codes "events that found no room") v.lost_events)
    (lost_text (codes "lines of the log that were lost") v.lost_lines)
    c.in_ok-begin_events.ensures c.in_ok-put_event_items.ensures c.in_ok-end_events.ensures c.in_ok-put_lost.ensures e)
    c.put_lost-2.ensures
