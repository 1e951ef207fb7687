use Rattle.std.proofs.Common.{◌∙◌}
use Rattle.sms_centre_spec.specs.CentreEvent.{happened}
use Rattle.sms_player.proofs.playing.Playing.hear.Goals as goal

pub returns-clause-represents : goal.returns-clause-represents
returns-clause-represents c = λ play shown. c.in_ok-heard.ensures.represents play (happened c.args.happening.now play.centre) (c.in_ok-outputs.ensures.represents play shown) (c.in_ok-outputs.ensures.outputs play shown).frames

pub returns-clause-deliveries : goal.returns-clause-deliveries
returns-clause-deliveries c = λ play shown. c.in_ok-heard.ensures.deliveries ∙ (c.in_ok-outputs.ensures.outputs play shown).deliveries

pub returns-clause-answer : goal.returns-clause-answer
returns-clause-answer c = λ play shown. c.in_ok-heard.ensures.answer ∙ (c.in_ok-outputs.ensures.outputs play shown).answer
