use Rattle.std.proofs.Common.{refl}
use Rattle.smsc_server.proofs.serving.Entered.{given_mark, seats_same, seats_trans}
use Rattle.smsc_server.proofs.serving.entrance.Entrance.close.Goals as goal

pub loop-init : goal.loop-init
loop-init g c = record { entered = λ start h. h; seats = seats_same _ }

pub loop-preserved : goal.loop-preserved
loop-preserved g c = let h = c.give.ensures in record {
  entered = λ start e. given_mark g.L.Door.came start _ _ c.give.result (c.loop.invariant.entered start e) refl refl h.given;
  seats = seats_trans _ _ _ c.loop.invariant.seats (record { same = h.same; made = h.made; settled = h.settled; returned = h.returned });
}

pub returns-then-is_err-clause-entered : goal.returns-then-is_err-clause-entered
returns-then-is_err-clause-entered g c = λ start e. given_mark g.L.Door.came start _ _ c.give.result (c.loop.invariant.entered start e) refl refl c.give.ensures.given

pub returns-then-is_err-clause-seats : goal.returns-then-is_err-clause-seats
returns-then-is_err-clause-seats g c = let h = c.give.ensures in
    seats_trans _ _ _ c.loop.invariant.seats (record { same = h.same; made = h.made; settled = h.settled; returned = h.returned })

pub returns-clause-entered : goal.returns-clause-entered
returns-clause-entered g c = c.loop.invariant.entered

pub returns-clause-seats : goal.returns-clause-seats
returns-clause-seats g c = c.loop.invariant.seats
