use Rattle.smsc_server.proofs.serving.endpoints.SeatContext.serve_connection.Goals as goal

pub returns : goal.returns
returns g c = c.serve_stream.ensures c.args.arrival.peer
