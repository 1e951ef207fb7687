use Rattle.std.proofs.Common.{Bool, true, sym, ◌∙◌, ap}
use Rattle.std.specs.Prelude.{◌||◌}
use Rattle.std.proofs.lemmas.Bool.{or_left}
use Rattle.sms_centre_rows.specs.waiting.Links.{link_of}
use Rattle.sms_centre_spec.specs.forgetting.Forget.{is_carried}
use Rattle.sms_centre.proofs.MayGo.{way_by_ends}
use Rattle.sms_centre.proofs.forgetting.is_on_way.Goals as goal

pub returns-then-is_on_way_to : goal.returns-then-is_on_way_to
returns-then-is_on_way_to c = λ core state represents stands there.
    let m = c.args.message.now in
    sym (or_left (is_carried m.id (link_of m.handset core.links).near_end.under_way) (is_carried m.id (link_of m.source.digits core.links).near_end.under_way)
    (sym (c.is_on_way_to.ensures core represents) ∙ c.if-is_on_way_to.true)) ∙ way_by_ends core stands.centre.sound m there

pub returns : goal.returns
returns c = λ core state represents stands there.
    let m = c.args.message.now in
    c.is_on_way_back.ensures core represents
    ∙ ap (λ (b : Bool). b || is_carried m.id (link_of m.source.digits core.links).near_end.under_way) (sym (sym (c.is_on_way_to.ensures core represents) ∙ c.if-is_on_way_to.false))
    ∙ way_by_ends core stands.centre.sound m there
