use Rattle.std.proofs.Common.{Bool, Err, Ok, ap, sym, subst}
use Rattle.std.specs.Prelude.{if◌then◌else◌}
use Rattle.sms_base.specs.Reading.{◌>>=◌}
use Rattle.sms_play.specs.PlayState.{PlayState}
use Rattle.sms_play.specs.Playing.{played_on, report_of}
use Rattle.sms_play.specs.Setups.{beginning}
use Rattle.sms_script.specs.declared.play_fault.PlayFault.TheVariants.{BadSetup}
use Rattle.sms_world.proofs.running.Judging.{decided_of_head}
use Rattle.sms_world.specs.running.Reporting.{ReportsAs}
use Rattle.sms_world.specs.declared.running.ending.Judged.{Judged}
use Rattle.sms_world.proofs.running.opening.play_before.Goals as goal

pub returns-in-Some-clause-report : goal.returns-in-Some-clause-report
returns-in-Some-clause-report g c =
    subst (λ (b : Bool). ReportsAs (λ (judged : Judged). judged.report) c.play_head.result ((if b then played_on 1 c.args.events.now (beginning c.args.setup.now) else Err BadSetup) >>= λ (d : PlayState). Ok (report_of d))) (sym c.in-Some.ensures.0) c.play_head.ensures.report

pub returns-in-Some-clause-verdict : goal.returns-in-Some-clause-verdict
returns-in-Some-clause-verdict g c = λ seen.
    decided_of_head c.play_head.result g.W.Finder.reports c.args.setup.now c.args.events.now c.in-Some.ensures.0 (c.play_head.ensures.verdict seen)

pub returns-in-None-clause-report : goal.returns-in-None-clause-report
returns-in-None-clause-report g c =
    ap (λ (b : Bool). (if b then played_on 1 c.args.events.now (beginning c.args.setup.now) else Err BadSetup) >>= λ (d : PlayState). Ok (report_of d)) c.in-None.ensures
