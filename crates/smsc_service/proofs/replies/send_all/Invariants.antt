use Rattle.std.proofs.Common.{◌≡◌, ◌++◌, drop}
use Rattle.smsc_service.specs.Seats.{seats_in}
use Rattle.smsc_service.specs.Replies.{frame_outs}
use Rattle.smsc_service.proofs.replies.send_all.Given as goal

abbrev pub invariant-loop-sent : goal.invariant-loop-sent
invariant-loop-sent l =
    l.outs.items ++ frame_outs l.asker.risen l.asker.seat (seats_in l.seat_map).links (drop l.sent-index l.frames)
    ≡ l.initial.outs.items ++ frame_outs l.asker.risen l.asker.seat (seats_in l.seat_map).links l.frames
