use Rattle.std.proofs.Common.{ap}
use Rattle.crossbeam_channel.specs.Claims.{view}
use Rattle.smsc_arrivals.proofs.SharingKeeps.{are_before, learns, none_left, takes_back}
use Rattle.smsc_arrivals.proofs.sharing.ends.Giver.take_back.Goals as goal

pub try_recv_as-requires-clause-rule : goal.try_recv_as-requires-clause-rule
try_recv_as-requires-clause-rule g c =
    let may = ap (λ v. v.gives) c.args.self.now.gives in
    (takes_back _ _ may (are_before (view c.args.self.now.pass) c.args.self.now.few), learns _ _ may)

pub returns-in-Err-clause-back : goal.returns-in-Err-clause-back
returns-in-Err-clause-back g c = none_left _ _ c.in-Err.ensures.rule.0 c.in-Err.ensures.rule.1
