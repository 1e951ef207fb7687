use Rattle.smsc_loop.proofs.Reasons.{here_of}
use Rattle.smsc_loop.proofs.serving.serve.Goals as goal

pub returns : goal.returns
returns g c =
    let here = here_of g.G.Endpoint.waits g.G.Endpoint.over g.G.Endpoint.owing _ _ _ _ c.see_out-why.ensures.0 c.see_out-why.result c.see_out-why.ensures.2 in
    let left = c.leave.ensures c.see_out-why.ensures.0 _ _ here in
    record {
      why = c.see_out-why.result;
      last = c.see_out-why.new.endpoint;
      last_phase = c.see_out-why.ensures.0;
      last_seat = c.see_out-why.new.seat.seat;
      served = c.see_out-why.ensures.1;
      meant = c.see_out-why.ensures.2;
      phase = left.0;
      left = left.1;
      emptied = left.2;
    }
