use Rattle.smsc_server.proofs.HeardEnds.{heard_ends}
use Rattle.smsc_server.proofs.run_laws.a_connection_hears_final_states.Goals as goal

pub returns : goal.returns
returns g c = λ admitted seat first last items took keeps did end there.
    heard_ends seat first last items _ did.untaken keeps did.replies end there
