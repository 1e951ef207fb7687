use Rattle.smsc_server.proofs.serving.Entered.{seats_same, seats_trans}
use Rattle.smsc_server.proofs.serving.accepting.Acceptor.accept_so_many.Goals as goal

pub loop-init : goal.loop-init
loop-init g c = record { entered = λ start h. h; seats = seats_same _ }

pub loop-preserved : goal.loop-preserved
loop-preserved g c = record {
  entered = λ start h. c.turn-is_left.ensures.entered start (c.loop.invariant.entered start h);
  seats = seats_trans _ _ _ c.loop.invariant.seats c.turn-is_left.ensures.seats;
}
