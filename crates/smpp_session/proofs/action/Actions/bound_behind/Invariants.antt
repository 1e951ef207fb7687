use Rattle.std.proofs.Common.{◌≡◌, drop}
use Rattle.smpp_session.specs.Bindings.{bound_behind}
use Rattle.smpp_session.proofs.action.Actions.bound_behind.Given as goal

abbrev pub invariant-loop-action : goal.invariant-loop-action
invariant-loop-action l = bound_behind l.bound (drop l.action-index l.actions) ≡ bound_behind l.fn.before l.fn.self
