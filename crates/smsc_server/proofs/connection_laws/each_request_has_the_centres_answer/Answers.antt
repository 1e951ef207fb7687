use Rattle.smsc_server.proofs.serving.Exchanged.{exchanged}
use Rattle.smsc_server.proofs.serving.Stretched.{stretched}
use Rattle.smsc_server.proofs.connection_laws.each_request_has_the_centres_answer.Goals as goal

pub returns : goal.returns
returns g c = λ admitted seat before behind items took h did.
    exchanged g.S.Read.remaining g.S.Write.contents admitted seat did.connections before items behind h
    (stretched g.S.Read.remaining g.S.Write.contents admitted seat did.connections before items behind did.untaken h did.in_turn did.jobs did.replies)
