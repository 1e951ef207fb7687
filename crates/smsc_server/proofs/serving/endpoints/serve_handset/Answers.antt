use Rattle.std.proofs.Common.{ap, ◌∙◌}
use Rattle.smsc_endpoint.specs.LinkView.{opened as opened_link}
use Rattle.smsc_server.proofs.serving.Visits.{link_sat, turned_away}
use Rattle.smsc_server.proofs.serving.endpoints.serve_handset.Goals as goal

pub returns-in_default : goal.returns-in_default
returns-in_default g c = λ stream opened accounts peer. turned_away g.S.Read.remaining g.S.Write.contents _ _ _

pub returns : goal.returns
returns g c = λ stream opened accounts peer.
    link_sat g.S.Read.remaining g.S.Write.contents c.args.seat.now.seat c.serve.new.seat.seat stream c.args.wire.now c.serve.new.wire opened _ peer _ _ (c.new-endpoint.ensures ∙ ap opened_link c.in-Ok.ensures) c.serve.ensures
