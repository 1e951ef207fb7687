use Rattle.std.proofs.Common.{◌∙◌, ap, subst, sym}
use Rattle.sms_play.specs.Premises.{may_begin}
use Rattle.sms_world_model.specs.Place.{place_in}
use Rattle.sms_world_model.specs.World.{Accepted}
use Rattle.sms_play.specs.judging.Watching.{Offers}
use Rattle.sms_play.proofs.judging.Rounding.{placed_as}
use Rattle.sms_play.proofs.judging.watch.Watch.submit.Goals as goal

pub returns-in_ok-may-in-Some-clause-begins : goal.returns-in_ok-may-in-Some-clause-begins
returns-in_ok-may-in-Some-clause-begins c = λ given down accepted w.
    let x = placed_as c.in_ok-pair.pair.handset.digits (place_in c.in_ok-pair.pair.tpdu.items) c.in-Some.place (sym c.in-Some.is ∙ c.place_of.ensures) in
    c.in_ok-may-in-Some.ensures.begins given down accepted x.0 w x.1.0 x.1.1 ∙ ap (λ (z : Accepted). may_begin z down accepted) c.in_ok-pair.ensures

pub returns-in_ok-may-in-Some-clause-put : goal.returns-in_ok-may-in-Some-clause-put
returns-in_ok-may-in-Some-clause-put c = λ given down accepted g w offers.
    let x = placed_as c.in_ok-pair.pair.handset.digits (place_in c.in_ok-pair.pair.tpdu.items) c.in-Some.place (sym c.in-Some.is ∙ c.place_of.ensures) in
    c.in_ok-may-in-Some.ensures.put given down accepted x.0 g w x.1.0 x.1.1 (subst (λ (z : Accepted). Offers z g) (sym c.in_ok-pair.ensures) offers)
