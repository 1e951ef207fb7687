use Rattle.sms_play.specs.Playing.{play_of}
use Rattle.sms_script.specs.declared.report.Report.{Report}
use Rattle.sms_world.proofs.headline.HeadlineHolds.{headline_is}
use Rattle.sms_world.proofs.headline.PlainWhole.{plain_report_is}
use Rattle.sms_world.proofs.running.Judging.{same_fault}
use Rattle.sms_world.specs.declared.running.ending.Judged.{Judged}
use Rattle.sms_world.proofs.running.whole.play.Goals as goal

pub returns-in-Ok-clause-headline : goal.returns-in-Ok-clause-headline
returns-in-Ok-clause-headline c = headline_is c.args.setup.now c.args.events.now c.in-Ok.judged.report c.are_typed.ensures c.in-Ok.ensures.report

pub returns-in-Ok-clause-plain : goal.returns-in-Ok-clause-plain
returns-in-Ok-clause-plain c = plain_report_is c.args.setup.now c.args.events.now c.in-Ok.judged.report c.are_typed.ensures c.in-Ok.ensures.report

pub returns-in-Err-clause-report : goal.returns-in-Err-clause-report
returns-in-Err-clause-report c = same_fault (λ (judged : Judged). judged.report) (λ (report : Report). report) c.in-Err.fault (play_of c.args.setup.now c.args.events.now) c.in-Err.ensures.report
