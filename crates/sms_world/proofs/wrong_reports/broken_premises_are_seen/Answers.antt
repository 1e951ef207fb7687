use Rattle.sms_world.proofs.wrong_reports.BrokenPremises.{fresh, in_time, late, reused}
use Rattle.sms_world.proofs.wrong_reports.broken_premises_are_seen.Goals as goal

pub returns : goal.returns
returns c = record { late = late; in_time = in_time; reused = reused; fresh = fresh }
