use Rattle.std.proofs.Common.{◌≡◌, []}
use Rattle.std.specs.Arc.{arc_value}
use Rattle.smpp_session.specs.Sessions.{opened}
use Rattle.smpp_session.specs.Calls.{ran}
use Rattle.smpp_session.proofs.calling.all.Given as goal

abbrev pub invariant-loop-call : goal.invariant-loop-call
invariant-loop-call l = ran (opened (arc_value l.fn.accounts), []) l.yielded ≡ (l.session, l.actions)
