use Rattle.std.proofs.Common.{List, ◌++◌, ◌∙◌, ap}
use Rattle.sms_centre_rows.specs.declared.messages.claim.Claim.{Claim}
use Rattle.sms_centre_spec.specs.forgetting.Forget.{bars_put, claims_by}
use Rattle.sms_centre.proofs.barring.bars_behind.Goals as goal

pub returns : goal.returns
returns c = λ core stands none.
    c.in_ok-bars.ensures core stands
    ∙ ap (λ (l : List Claim). bars_put l core.rows.bars) (c.as_slice.ensures.value ∙ c.in_ok-add_each.ensures core stands
    ∙ ap (λ (l : List Claim). l ++ claims_by c.args.ids.now core.rows.messages core.rows.parts) none)
