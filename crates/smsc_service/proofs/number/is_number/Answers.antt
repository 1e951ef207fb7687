use Rattle.smsc_service.proofs.Numbers.{number_passes}
use Rattle.smsc_service.proofs.number.is_number.Goals as goal

pub returns : goal.returns
returns c = number_passes c.args.number.now c.spells_a_number.ensures.number
