use Rattle.sms_player.proofs.playing.Halting.{stopped_after, stopped_before}
use Rattle.sms_player.proofs.playing.Playing.stop_handset.Goals as goal

pub returns-in-Before : goal.returns-in-Before
returns-in-Before c = λ play party shown first.
    stopped_before c.restart_handset.result c.args.happening.now party play c.restart_handset.new.self c.args.place c.args.stop c.in-Before.is first (c.restart_handset.ensures play party shown first)

pub returns-in_ok-commit_handset-in-After : goal.returns-in_ok-commit_handset-in-After
returns-in_ok-commit_handset-in-After c = λ play party shown first.
    stopped_after c.restart_handset-in-After.result _ c.args.happening.now party play c.commit_handset.new.self c.restart_handset-in-After.new.self c.args.place c.args.stop c.in-After.is first
    (c.in_ok-commit_handset-in-After.ensures.meets play party shown first) c.restart_handset-in-After.ensures
