use Rattle.std.proofs.Common.{Option, ◌∙◌, ap}
use Rattle.sms_base.specs.declared.carried.Carried.{Carried}
use Rattle.sms_centre_spec.specs.Draft.{draft_of}
use Rattle.sms_centre_spec.specs.forgetting.Forget.{is_carried}
use Rattle.sms_centre.proofs.forgetting.is_on_way_to.Goals as goal

pub returns : goal.returns
returns c = λ core represents. c.is_carried.ensures ∙ ap (λ (o : Option Carried). is_carried c.args.id o) (c.under_way.ensures (draft_of core) represents)
