use Rattle.std.proofs.Common.{None, rules}
use Rattle.std.specs.Prelude.{IfOk}
use Rattle.sms_play.specs.Playing.{broken_on}
use Rattle.sms_play.specs.Setups.{beginning}
use Rattle.sms_store_memory.specs.centre.RowsInKeep.{rows_in}
use Rattle.sms_world.proofs.running.Beginning.{begins}
use Rattle.sms_world.specs.running.Begun.{IsBegun}
use Rattle.sms_world.specs.running.Reporting.{Decides, ReportsAs, report_on}
use Rattle.sms_world.specs.declared.running.ending.Judged.{Judged}
use Rattle.sms_script.specs.declared.setup.Setup.{Setup}
use Rattle.sms_world.proofs.running.opening.play_at.Goals as goal

pub returns-in-Ok-clause-report : goal.returns-in-Ok-clause-report
returns-in-Ok-clause-report g c = λ s is numbers same.
    let law : (s : Setup) → IsBegun s c.args.centre.now (rows_in c.in-Ok.ensures.0) c.args.handsets.now c.args.parties.now → ReportsAs (λ (judged : Judged). judged.report) c.in-Ok.played (report_on c.args.events.now (beginning s)) = search rules in
    law s (begins s c.args.setup.now c.args.centre.now (rows_in c.in-Ok.ensures.0) c.args.handsets.now c.args.parties.now is numbers same c.requires.centre_state c.in-Ok.ensures.2 c.requires.few)

pub returns-in-Ok-clause-verdict : goal.returns-in-Ok-clause-verdict
returns-in-Ok-clause-verdict g c = λ s is numbers same seen.
    let law : (s : Setup) → IsBegun s c.args.centre.now (rows_in c.in-Ok.ensures.0) c.args.handsets.now c.args.parties.now → g.W.Watcher.has_seen c.args.watcher.now None (beginning s) → IfOk c.in-Ok.played (λ (judged : Judged). Decides (g.W.Finder.reports judged.broken) (broken_on 1 c.args.events.now (beginning s))) = search rules in
    law s (begins s c.args.setup.now c.args.centre.now (rows_in c.in-Ok.ensures.0) c.args.handsets.now c.args.parties.now is numbers same c.requires.centre_state c.in-Ok.ensures.2 c.requires.few) seen
