use Rattle.smsc_server.proofs.serving.endpoints.SeatContext.serve_socket.Goals as goal

pub returns : goal.returns
returns g c = c.serve_side.ensures
