use Rattle.std.proofs.Common.{[]}
use Rattle.std.specs.Arc.{arc_value}
use Rattle.smpp_session.specs.Sessions.{opened}
use Rattle.smpp_session.proofs.Cuts.{ran_one}
use Rattle.smpp_session.proofs.calling.all.Goals as goal

pub loop-call-preserved : goal.loop-call-preserved
loop-call-preserved c =
    ran_one (opened (arc_value c.args.accounts), []) (c.loop-call.session, c.loop-call.actions) (c.one.new.session, c.one.new.actions) c.loop-call.yielded c.in-Some.call c.loop-call.invariant c.in_ok-one.ensures
