use Rattle.std.proofs.Common.{◌≡◌, ap, sym, refl, ◌∙◌, subst}
use Rattle.sms_seats.specs.Seats.{put_by, taken_by}
use Rattle.smsc_loop.specs.Owing.{IsCleared}
use Rattle.smsc_loop.proofs.Joins.{seat_trans}
use Rattle.smsc_server.specs.serving.Entering.{arrivals_among}
use Rattle.smsc_server.proofs.serving.Sat.{cleared_first, handed_back, same_from}
use Rattle.smsc_server.proofs.serving.endpoints.serve_seat.Goals as goal

pub serve_all-requires : goal.serve_all-requires
serve_all-requires g c = cleared_first _ _ c.new-seat.ensures c.requires.seat.0 c.requires.seat.1

pub returns-clause-seat : goal.returns-clause-seat
returns-clause-seat g c = same_from _ _ _ _ c.new-seat.ensures c.serve_all.ensures.sat.seat c.close-seat.ensures.seat

pub returns-clause-taker : goal.returns-clause-taker
returns-clause-taker g c = c.serve_all.ensures.same

pub returns-clause-sat : goal.returns-clause-sat
returns-clause-sat g c =
    handed_back g.S.Read.remaining g.S.Write.contents _ _ _ _ _ _ (ap put_by c.new-seat.ensures ∙ c.requires.seat.0) (ap taken_by c.new-seat.ensures ∙ c.requires.seat.1)
    (ap arrivals_among c.requires.taker) c.serve_all.ensures.sat c.close-seat.ensures.put c.close-seat.ensures.taken
