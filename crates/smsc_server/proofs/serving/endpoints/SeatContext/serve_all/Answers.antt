use Rattle.std.proofs.Common.{refl, ◌∙◌}
use Rattle.smsc_server.proofs.serving.Sat.{sat_more, sat_none, sat_same}
use Rattle.smsc_server.proofs.serving.Entered.{taker_same, taker_trans}
use Rattle.smsc_server.proofs.serving.endpoints.SeatContext.serve_all.Goals as goal

pub loop-init : goal.loop-init
loop-init g c = record { sat = sat_none g.S.Read.remaining g.S.Write.contents _ _ _; cleared = c.requires; same = taker_same _ }

pub returns-in_default-clause-sat : goal.returns-in_default-clause-sat
returns-in_default-clause-sat g c = sat_same g.S.Read.remaining g.S.Write.contents _ _ _ _ _ _ c.in_default.ensures.taken c.loop.invariant.sat

pub returns-in_default-clause-same : goal.returns-in_default-clause-same
returns-in_default-clause-same g c = taker_trans _ _ _ c.loop.invariant.same c.next_arrival.ensures.same

pub returns-then-not-is_cleared-clause-sat : goal.returns-then-not-is_cleared-clause-sat
returns-then-not-is_cleared-clause-sat g c =
    sat_more g.S.Read.remaining g.S.Write.contents _ _ _ _ _ _ _ _ c.loop.invariant.sat c.loop.invariant.cleared c.in-Some.ensures.taken c.serve_connection.ensures

pub returns-then-not-is_cleared-clause-same : goal.returns-then-not-is_cleared-clause-same
returns-then-not-is_cleared-clause-same g c = taker_trans _ _ _ c.loop.invariant.same c.next_arrival.ensures.same

pub loop-preserved : goal.loop-preserved
loop-preserved g c = record {
  sat = sat_more g.S.Read.remaining g.S.Write.contents _ _ _ _ _ _ _ _ c.loop.invariant.sat c.loop.invariant.cleared c.in-Some.ensures.taken c.serve_connection.ensures;
  cleared = c.is_cleared.ensures c.if-not-is_cleared.false;
  same = taker_trans _ _ _ c.loop.invariant.same c.next_arrival.ensures.same;
}

pub returns-clause-sat : goal.returns-clause-sat
returns-clause-sat g c = c.loop.invariant.sat

pub returns-clause-same : goal.returns-clause-same
returns-clause-same g c = c.loop.invariant.same
