use Rattle.std.proofs.Common.{◌≡◌, ◌++◌}
use Rattle.smpp_session.proofs.action.Actions.append.Given as goal

abbrev pub invariant-loop-action : goal.invariant-loop-action
invariant-loop-action l = l.self ≡ l.fn.self ++ l.yielded
