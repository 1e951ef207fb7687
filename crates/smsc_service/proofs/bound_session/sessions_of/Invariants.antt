use Rattle.std.proofs.Common.{◌≡◌, drop}
use Rattle.sms_centre.specs.state.Recovering.{AreNew}
use Rattle.smsc_service.specs.BoundSession.{sessions_from, sessions_of}
use Rattle.smsc_service.proofs.bound_session.sessions_of.Given as goal

abbrev pub invariant-loop-bound_session : goal.invariant-loop-bound_session
invariant-loop-bound_session l =
    (sessions_from l.rows.setup.accounts l.sessions.rows (drop l.bound_session-index l.seat_map.bound_sessions) ≡ sessions_of l.rows.setup.accounts l.seat_map.bound_sessions) × AreNew l.sessions.rows
