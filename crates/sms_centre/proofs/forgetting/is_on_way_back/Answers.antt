use Rattle.std.proofs.Common.{ℕ, List, ap, ◌∙◌}
use Rattle.sms_centre_rows.specs.waiting.Links.{link_of}
use Rattle.sms_centre_spec.specs.forgetting.Forget.{is_carried}
use Rattle.sms_centre.proofs.MayGo.{no_link}
use Rattle.sms_centre.proofs.forgetting.is_on_way_back.Goals as goal

pub returns-in-Some : goal.returns-in-Some
returns-in-Some c = λ core represents.
    c.is_on_way_to.ensures core represents ∙ ap (λ (number : List ℕ). is_carried c.args.id (link_of number core.links).near_end.under_way) c.in-Some.ensures.1

pub returns-in-None : goal.returns-in-None
returns-in-None c = λ core represents. no_link c.args.id c.args.source.now core.links represents.queues.digits c.in-None.ensures
