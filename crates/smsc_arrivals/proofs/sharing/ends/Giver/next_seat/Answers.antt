use Rattle.std.proofs.Common.{ap}
use Rattle.crossbeam_channel.specs.Claims.{view}
use Rattle.smsc_arrivals.proofs.SharingKeeps.{are_before, forks}
use Rattle.smsc_arrivals.proofs.sharing.ends.Giver.next_seat.Goals as goal

pub another-pass-requires-clause-rule : goal.another-pass-requires-clause-rule
another-pass-requires-clause-rule g c =
    forks _ _ (ap (λ v. v.gives) c.args.self.now.gives) c.requires (are_before (view c.args.self.now.pass) c.args.self.now.few)
