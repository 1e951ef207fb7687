use Rattle.smsc_server.proofs.serving.Threads.{more_from}
use Rattle.smsc_server.proofs.serving.server.Server.start_seat.Goals as goal

pub returns-clause-more : goal.returns-clause-more
returns-clause-more g c = more_from _ _ _ _ _ _ _ _ _ c.start_endpoints.result c.in_ok-context.ensures c.start_reader.ensures c.in_ok-taker.ensures.taker c.start_endpoints.ensures
