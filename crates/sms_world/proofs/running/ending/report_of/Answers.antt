use Rattle.sms_play.specs.Playing.{report_of}
use Rattle.sms_world.proofs.running.Judging.{fault_named, report_reported}
use Rattle.sms_world.proofs.running.ending.report_of.Goals as goal

pub returns-clause-report : goal.returns-clause-report
returns-clause-report c = λ play shown. report_reported c.report.result c.or_no_memory.result c.args.events (report_of play) c.or_no_memory.ensures (c.report.ensures play shown)

pub returns-clause-fault : goal.returns-clause-fault
returns-clause-fault c = fault_named c.report.result c.or_no_memory.result c.args.events c.or_no_memory.ensures
