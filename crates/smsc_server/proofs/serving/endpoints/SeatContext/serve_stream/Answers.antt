use Rattle.smsc_server.proofs.serving.Visits.{turned_away}
use Rattle.smsc_server.proofs.serving.endpoints.SeatContext.serve_stream.Goals as goal

pub returns-in-Ok : goal.returns-in-Ok
returns-in-Ok g c = λ peer. c.serve_socket.ensures c.args.stream c.in-Ok.ensures peer

pub returns-in-Err : goal.returns-in-Err
returns-in-Err g c = λ peer. turned_away g.S.Read.remaining g.S.Write.contents _ _ _
