use Rattle.std.proofs.Common.{arith, add-one, get_or}
use Rattle.sms_script.proofs.Decimals.{number_steps, number_ends, digit_fits}
use Rattle.sms_script.proofs.number.number_of.Goals as goal

pub loop-octet-preserved : goal.loop-octet-preserved
loop-octet-preserved c = (
  rw add-one (number_steps c.args.word.now c.loop-octet.octet-index c.loop-octet.number c.in_ok-number.number (omega arith) c.loop-octet.invariant.0 c.in_ok-number.ensures),
  digit_fits c.loop-octet.number (get_or c.args.word.now c.loop-octet.octet-index 0) c.in_ok-number.number c.in_ok-number.ensures,
)

pub returns : goal.returns
returns c = number_ends c.args.word.now c.loop-octet.octet-index c.loop-octet.number (omega arith) c.loop-octet.invariant.1 c.loop-octet.invariant.0
