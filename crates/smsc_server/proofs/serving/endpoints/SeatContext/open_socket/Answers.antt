use Rattle.smsc_server.proofs.serving.endpoints.SeatContext.open_socket.Goals as goal

pub returns-in-Ok : goal.returns-in-Ok
returns-in-Ok g c = let h = c.in_ok-socket.ensures in
    record { remaining_so = h.remaining; written_so = h.written; may_send = h.open.0; may_take = h.open.1 }
