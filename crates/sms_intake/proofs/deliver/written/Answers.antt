use Rattle.sms_intake.proofs.Delivers.{if_written}
use Rattle.sms_intake.proofs.deliver.written.Goals as goal

pub returns-clause-is : goal.returns-clause-is
returns-clause-is c = if_written c.args.deliver.now c.write_deliver.result c.write_deliver.ensures.ok
