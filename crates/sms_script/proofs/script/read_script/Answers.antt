use Rattle.sms_script.proofs.ScriptLaws.{script_found, script_only}
use Rattle.sms_script.proofs.script.read_script.Goals as goal

pub returns-clause-found : goal.returns-clause-found
returns-clause-found c = script_found c.args.text.now c.read.result c.read.ensures

pub returns-clause-only : goal.returns-clause-only
returns-clause-only c = λ script h. script_only c.args.text.now script c.read.result c.read.ensures h
