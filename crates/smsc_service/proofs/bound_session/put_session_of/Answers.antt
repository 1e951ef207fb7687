use Rattle.std.proofs.Common.{ap}
use Rattle.sms_centre_rows.specs.reports.Receipts.{Session}
use Rattle.smsc_service.proofs.Sittings.{new_after}
use Rattle.smsc_service.proofs.bound_session.put_session_of.Goals as goal

pub returns-clause-new : goal.returns-clause-new
returns-clause-new c = new_after c.put.result c.in_ok-seat.seat c.args.sessions.now.rows c.put.new.self.rows c.put.ensures.ok c.put.ensures.err (ap (λ (s : Session). s.unanswered) c.in_ok-seat.ensures) c.requires
