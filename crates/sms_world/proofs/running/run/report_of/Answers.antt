use Rattle.std.proofs.Common.{refl}
use Rattle.sms_world.proofs.running.HeadlineWritten.{headline_made}
use Rattle.sms_world.proofs.running.run.report_of.Goals as goal

pub returns-clause-text : goal.returns-clause-text
returns-clause-text c = c.output.ensures refl

pub returns-clause-headline : goal.returns-clause-headline
returns-clause-headline c = headline_made c.args.script.now c.output.result (c.output.ensures refl)
