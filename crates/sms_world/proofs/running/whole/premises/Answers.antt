use Rattle.std.proofs.Common.{Option}
use Rattle.sms_play.specs.Playing.{play_of, premises_of}
use Rattle.sms_script.specs.declared.report.Broken.{Broken}
use Rattle.sms_world.proofs.headline.ExactPremises.{premises_are}
use Rattle.sms_world.proofs.headline.WorldAnswers.{answer_is}
use Rattle.sms_world.proofs.running.Judging.{fault_as, same_fault}
use Rattle.sms_world.specs.declared.running.ending.Judged.{Judged}
use Rattle.sms_world.proofs.running.whole.premises.Goals as goal

pub returns-in-Ok-clause-premises : goal.returns-in-Ok-clause-premises
returns-in-Ok-clause-premises c = premises_are c.args.setup.now c.args.events.now c.in-Ok.judged.broken c.in-Ok.ensures.premises

pub returns-in-Ok-clause-world : goal.returns-in-Ok-clause-world
returns-in-Ok-clause-world c =
    answer_is c.args.setup.now c.args.events.now c.in-Ok.judged.broken c.are_typed.ensures
    (premises_are c.args.setup.now c.args.events.now c.in-Ok.judged.broken c.in-Ok.ensures.premises)

pub returns-in-Err-clause-faults : goal.returns-in-Err-clause-faults
returns-in-Err-clause-faults c = fault_as (Option Broken) (λ (judged : Judged). judged.report) c.in-Err.fault (play_of c.args.setup.now c.args.events.now) c.in-Err.ensures.report

pub returns-in-Err-clause-exact : goal.returns-in-Err-clause-exact
returns-in-Err-clause-exact c = same_fault (λ (judged : Judged). judged.broken) (λ (broken : Option Broken). broken) c.in-Err.fault (premises_of c.args.setup.now c.args.events.now) c.in-Err.ensures.premises
