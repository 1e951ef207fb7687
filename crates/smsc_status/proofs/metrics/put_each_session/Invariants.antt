use Rattle.std.proofs.Common.{◌≡◌, ◌++◌, drop}
use Rattle.smsc_status.specs.Metrics.{session_samples}
use Rattle.smsc_status.proofs.metrics.put_each_session.Given as goal

abbrev pub invariant-loop-session : goal.invariant-loop-session
invariant-loop-session l = l.out ++ session_samples l.name l.metric (drop l.session-index l.sessions) ≡ l.fn.out ++ session_samples l.name l.metric l.sessions
