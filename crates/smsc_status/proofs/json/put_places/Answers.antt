use Rattle.std.proofs.Common.{◌++◌, append-nil, get_or, sym, ap, ◌∙◌}
use Rattle.smsc_status.specs.declared.commits.TheConstants.{LIMITS}
use Rattle.smsc_status.specs.Json.{first_places, place_text}
use Rattle.smsc_status.proofs.Chains.{next}
use Rattle.smsc_status.proofs.Elements.{no_place, one_more_place}
use Rattle.smsc_status.proofs.json.put_places.Goals as goal

pub loop-place-init : goal.loop-place-init
unfolding first_places
loop-place-init c = sym (append-nil c.args.out.now)

pub loop-place-preserved : goal.loop-place-preserved
loop-place-preserved c =
    let counts = c.args.commits.now.counts in
    let place = c.loop-place.place in
    next c.args.out.now (first_places counts place) (place_text (get_or LIMITS place 0) (get_or counts place 0))
    c.loop-place.invariant c.in_ok-put_place.ensures
    ∙ ap (λ t. c.args.out.now ++ t) (sym (one_more_place counts place))
