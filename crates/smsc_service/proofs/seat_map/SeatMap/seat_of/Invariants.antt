use Rattle.std.proofs.Common.{◌≡◌, drop}
use Rattle.smsc_service.specs.Seats.{seat_of}
use Rattle.smsc_service.proofs.seat_map.SeatMap.seat_of.Given as goal

abbrev pub invariant-loop-link : goal.invariant-loop-link
invariant-loop-link l = seat_of l.handset (drop l.link-index l.self.links) ≡ seat_of l.handset l.self.links
