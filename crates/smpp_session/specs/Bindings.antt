-- Whether an account is bound, by the state of its session and by the actions that its owner was given.
use Rattle.std.specs.Prelude.{List, [], ◌∷◌, Bool, true, false, ◌&&◌}
use Rattle.smpp_session.specs.declared.action.Action.{Action}
use Rattle.smpp_session.specs.declared.action.Action.TheVariants.{Bound, Unbound}
use Rattle.smpp_session.specs.declared.conversation.SessionState.{SessionState}
use Rattle.smpp_session.specs.declared.conversation.SessionState.TheVariants.{Opened, BoundTx, BoundRx, BoundTrx, Unbinding, Finishing, Broken, Closed}

abbrev pub is_bound : SessionState → Bool
is_bound Opened = false
is_bound BoundTx = true
is_bound BoundRx = true
is_bound BoundTrx = true
is_bound Unbinding = true
is_bound Finishing = false
is_bound Broken = false
is_bound Closed = false

abbrev pub is_closed : SessionState → Bool
is_closed Closed = true
is_closed state = false

-- no octet is taken in any more
abbrev pub is_deaf : SessionState → Bool
is_deaf Broken = true
is_deaf Closed = true
is_deaf state = false

-- no request is taken in any more
abbrev pub is_ending : SessionState → Bool
is_ending Unbinding = true
is_ending Finishing = true
is_ending Broken = true
is_ending Closed = true
is_ending state = false

-- by what one action says, if it was so before
abbrev pub bound_after : Bool → Action → Bool
bound_after before (Bound place kind) = true
bound_after before Unbound = false
bound_after before action = before

-- by what actions say, if it was so before them
abbrev pub bound_behind : Bool → List Action → Bool
bound_behind before [] = before
bound_behind before (action ∷ actions) = bound_behind (bound_after before action) actions

-- A session that was in that state gave these actions and takes no octet now, and by all of them an account is bound.
abbrev pub is_bind_lost : SessionState → List Action → SessionState → Bool
is_bind_lost before actions after = is_deaf after && bound_behind (is_bound before) actions
