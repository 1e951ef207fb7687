use Rattle.sms_centre_events.proofs.IdTexts.{read_none, read_some}
use Rattle.sms_centre_events.proofs.finding.id_of.Goals as goal

pub returns-in-Some : goal.returns-in-Some
returns-in-Some c = read_some c.args.octets.now c.read-read.result c.in-Some.id c.in-Some.is c.read-read.ensures.found c.number-number.ensures.range.some

pub returns-in-None : goal.returns-in-None
returns-in-None c = read_none c.args.octets.now c.read-read.result c.in-None.is c.read-read.ensures.only
