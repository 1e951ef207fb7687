use Rattle.sms_seats.specs.Seats.{put_by, taken_by}
use Rattle.smsc_loop.proofs.Counting.{ahead_is}
use Rattle.smsc_loop.proofs.open_seat.OpenSeat.is_ahead.Goals as goal

pub returns : goal.returns
returns c =
    let seat = c.args.self.now in
    ahead_is (put_by seat.seat) (taken_by seat.seat) seat.awaited seat.ahead seat.counted
