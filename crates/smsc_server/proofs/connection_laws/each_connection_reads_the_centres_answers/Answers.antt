use Rattle.std.proofs.Common.{[]}
use Rattle.smsc_server.proofs.RunReads.{have_read}
use Rattle.smsc_server.proofs.serving.Exchanged.{exchanged}
use Rattle.smsc_server.proofs.serving.Stretched.{stretched}
use Rattle.smsc_server.proofs.connection_laws.each_connection_reads_the_centres_answers.Goals as goal

pub returns : goal.returns
returns g c = λ admitted seat before behind items took h did.
    have_read g.S.Read.remaining g.S.Write.contents admitted c.what_a_handset_reads.ensures seat did.connections [] [] before items did.sat_down did.in_turn
    (exchanged g.S.Read.remaining g.S.Write.contents admitted seat did.connections before items behind h
    (stretched g.S.Read.remaining g.S.Write.contents admitted seat did.connections before items behind did.untaken h did.in_turn did.jobs did.replies))
