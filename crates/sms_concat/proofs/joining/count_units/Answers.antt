use Rattle.sms_concat.proofs.Joined.{summing_end}
use Rattle.sms_concat.proofs.joining.count_units.Goals as goal

pub returns : goal.returns
returns c = summing_end c.args.parts.now c.loop-part.count c.loop-part.part-index c.loop-part-test.false c.loop-part.invariant
