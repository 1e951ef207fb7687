use Rattle.sms_script.proofs.report.IdTexts.{id_put}
use Rattle.sms_script.proofs.report.writing.put_id.Goals as goal

pub returns : goal.returns
returns c = id_put c.append.result c.args.out.now c.append.new.self c.digits.result c.args.id c.number-range.ensures.range c.digits.ensures c.append.ensures.ok
