use Rattle.std.proofs.Common.{◌≡◌, Some}
use Rattle.sms_concat.specs.declared.content.Content.{Content}
use Rattle.sms_concat.specs.Joining.{content_joined}
use Rattle.sms_concat.proofs.Joined.{whole_joins}
use Rattle.sms_concat.proofs.joining.join.Goals as goal
use Rattle.sms_concat.proofs.joiner.Around.{on_err}

pub returns-in_err-units_of-in-len1-up-clause-err : goal.returns-in_err-units_of-in-len1-up-clause-err
returns-in_err-units_of-in-len1-up-clause-err c =
    on_err ((content : Content) × (content_joined c.args.parts.now ≡ Some content)) c.from_residual.result (whole_joins c.args.parts.now c.is_whole.result c.if-not-is_whole.false c.is_whole.ensures)
