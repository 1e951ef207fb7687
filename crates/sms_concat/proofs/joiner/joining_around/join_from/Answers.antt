use Rattle.std.proofs.Common.{◌≡◌, Some, ◌++◌, ◌∷◌}
use Rattle.sms_concat.specs.declared.content.Content.{Content}
use Rattle.sms_concat.specs.Joining.{content_joined}
use Rattle.sms_concat.proofs.joiner.Around.{on_err, joins_then}
use Rattle.sms_concat.proofs.joiner.joining_around.join_from.Goals as goal

pub returns-in_err-units_around-clause-err : goal.returns-in_err-units_around-clause-err
returns-in_err-units_around-clause-err c =
    let l = c.args.before.now ++ c.args.part.now ∷ c.args.after.now in
    on_err ((content : Content) × (content_joined l ≡ Some content)) c.from_residual.result
    (joins_then c.args.first.now c.requires.0 l c.are_whole.result c.requires.1 c.are_whole.ensures c.if-not-are_whole.false)
