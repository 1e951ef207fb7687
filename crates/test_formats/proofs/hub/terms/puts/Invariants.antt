use Rattle.std.proofs.Common.{◌≡◌, false}
use Rattle.sms_seats.specs.Jobs.{has_end}
use Rattle.sms_seats.specs.Seats.{put_by}
use Rattle.test_formats.proofs.hub.terms.puts.Given as goal

abbrev pub invariant-loop-job : goal.invariant-loop-job
invariant-loop-job g l = has_end (put_by l.seat) ≡ false
