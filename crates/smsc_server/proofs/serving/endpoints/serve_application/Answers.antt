use Rattle.smsc_server.proofs.serving.Visits.{session_sat, turned_away}
use Rattle.smsc_server.proofs.serving.endpoints.serve_application.Goals as goal

pub returns-in_default : goal.returns-in_default
returns-in_default g c = λ stream opened access peer. turned_away g.S.Read.remaining g.S.Write.contents _ _ _

pub returns : goal.returns
returns g c = λ stream opened access peer.
    session_sat g.S.Read.remaining g.S.Write.contents c.args.seat.now.seat c.serve.new.seat.seat stream c.args.wire.now c.serve.new.wire opened _ _ c.in-Ok.ensures peer _ _ c.new-endpoint.ensures c.serve.ensures
