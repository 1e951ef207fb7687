use Rattle.std.proofs.Common.{[], refl}
use Rattle.std.proofs.lemmas.Bool.{lt-ltb}
use Rattle.smsc_service.specs.Seats.{nobody}
use Rattle.smsc_service.specs.Serving.{restarted}
use Rattle.smsc_server.proofs.OwnReplies.{hear_own}
use Rattle.smsc_server.proofs.serving.Stretched.{vacated}
use Rattle.smsc_server.proofs.run_laws.each_connection_hears_its_own.Goals as goal

pub returns : goal.returns
returns g c = λ admitted seat rows items last took few sound are run did.
    hear_own g.S.Read.remaining g.S.Write.contents admitted seat (lt-ltb seat 32 few) rows items (c.receipts_go_to_their_accounts.ensures rows items last sound are run)
    did.connections [] items (restarted rows nobody) last refl run refl refl
    (vacated g.S.Read.remaining g.S.Write.contents admitted seat did.connections (restarted rows nobody) items last did.untaken run did.in_turn did.jobs did.replies)
