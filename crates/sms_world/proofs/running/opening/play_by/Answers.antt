use Rattle.std.proofs.Common.{[], None, ◌∙◌, ap}
use Rattle.sms_play.specs.Playing.{broken_on, played_on}
use Rattle.sms_play.specs.Setups.{beginning}
use Rattle.sms_store_memory.specs.centre.RowsInKeep.{rows_in}
use Rattle.sms_player.specs.centre.PlayedCentre.{PlayedOf}
use Rattle.sms_player.specs.playing.Played.{PlayingOf}
use Rattle.sms_world.proofs.running.Beginning.{begun}
use Rattle.sms_world.proofs.running.Judging.{decided_there, no_report, report_there}
use Rattle.sms_world.specs.declared.running.ending.Judged.{Judged}
use Rattle.sms_world.proofs.running.opening.play_by.Goals as goal

pub returns-in-Ok-clause-report : goal.returns-in-Ok-clause-report
returns-in-Ok-clause-report g c = λ s b.
    let shown = begun s c.args.centre.now (rows_in c.args.keep.now) c.args.handsets.now c.args.parties.now c.new-playing.result b
    (c.new-playing.ensures ∙ ap {B = PlayingOf} (λ (x : PlayedOf). record { centre = x; parties = c.args.parties.now; answers = []; given = []; bag = [] }) c.new-centre.ensures) in
    let done = c.in-Ok.ensures.leads (beginning s) shown in
    report_there (λ (judged : Judged). judged.report) c.finish.result c.args.events.now (beginning s) done.0 done.1.0 (c.finish.ensures.report done.0 done.1.1)

pub returns-in-Ok-clause-verdict : goal.returns-in-Ok-clause-verdict
returns-in-Ok-clause-verdict g c = λ s b seen.
    let shown = begun s c.args.centre.now (rows_in c.args.keep.now) c.args.handsets.now c.args.parties.now c.new-playing.result b
    (c.new-playing.ensures ∙ ap {B = PlayingOf} (λ (x : PlayedOf). record { centre = x; parties = c.args.parties.now; answers = []; given = []; bag = [] }) c.new-centre.ensures) in
    let done = c.in-Ok.ensures.seen (beginning s) None shown seen in
    decided_there c.finish.result g.W.Finder.reports done.1.0 (broken_on 1 c.args.events.now (beginning s)) done.1.1.1 (c.finish.ensures.verdict done.1.0 done.0 done.1.1.3)

pub returns-in-Err-clause-report : goal.returns-in-Err-clause-report
returns-in-Err-clause-report g c = λ s b.
    let shown = begun s c.args.centre.now (rows_in c.args.keep.now) c.args.handsets.now c.args.parties.now c.new-playing.result b
    (c.new-playing.ensures ∙ ap {B = PlayingOf} (λ (x : PlayedOf). record { centre = x; parties = c.args.parties.now; answers = []; given = []; bag = [] }) c.new-centre.ensures) in
    no_report (λ (judged : Judged). judged.report) c.in-Err.fault c.play_all.new.playing (played_on 1 c.args.events.now (beginning s)) (c.in-Err.ensures.leads (beginning s) shown)
