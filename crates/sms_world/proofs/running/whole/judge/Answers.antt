use Rattle.sms_play.specs.Setups.{beginning}
use Rattle.sms_world.proofs.running.Beginning.{is_new}
use Rattle.sms_world.proofs.running.Judging.{premises_reported}
use Rattle.sms_world.proofs.running.whole.judge.Goals as goal

pub returns-clause-premises : goal.returns-clause-premises
returns-clause-premises c =
    premises_reported c.play_before.result c.args.setup.now c.args.events.now c.play_before.ensures.report
    (c.play_before.ensures.verdict (c.new-judge.ensures (beginning c.args.setup.now) (is_new c.args.setup.now)))
