use Rattle.std.proofs.Common.{◌∙◌, ap, Err, List, sym, subst}
use Rattle.sms_play.specs.Playing.{play_of, premises_of}
use Rattle.sms_world.proofs.running.Written.{no_text, text_given}
use Rattle.sms_world.specs.running.Reporting.{ReportsAs}
use Rattle.sms_world.specs.declared.running.ending.Judged.{Judged}
use Rattle.sms_script.specs.declared.event.WorldEvent.{WorldEvent}
use Rattle.sms_world.proofs.running.run.report.Goals as goal

pub returns-in-Ok : goal.returns-in-Ok
returns-in-Ok c =
    let setup = c.args.script.now.setup in
    let same = sym c.as_slice-events.ensures in
    text_given c.in-Ok.judged.report c.in-Ok.judged.broken (play_of setup c.args.script.now.events) (premises_of setup c.args.script.now.events)
    (ap (λ (events : List WorldEvent). play_of setup events) same ∙ c.in-Ok.ensures.report) (ap (λ (events : List WorldEvent). premises_of setup events) same ∙ c.in-Ok.ensures.premises)
    c.report_text.result c.or_no_memory.result _ c.or_no_memory.ensures c.report_text.ensures

pub returns-in-Err : goal.returns-in-Err
returns-in-Err c =
    no_text (λ (judged : Judged). judged.report) (premises_of c.args.script.now.setup c.args.script.now.events) c.in-Err.fault (play_of c.args.script.now.setup c.args.script.now.events)
    (subst (λ (events : List WorldEvent). ReportsAs (λ (judged : Judged). judged.report) (Err c.in-Err.fault) (play_of c.args.script.now.setup events)) c.as_slice-events.ensures c.in-Err.ensures.report)
