use Rattle.std.proofs.Common.{◌<◌, ℕ, ap, sym, subst}
use Rattle.crossbeam_channel.specs.Claims.{view}
use Rattle.smsc_arrivals.proofs.SharingKeeps.{merges}
use Rattle.smsc_arrivals.proofs.sharing.ends.Giver.settle.Goals as goal

pub absorb-requires-clause-rule : goal.absorb-requires-clause-rule
absorb-requires-clause-rule g c =
    let v = view c.args.self.now.pass in
    let w = view c.args.taker.pass in
    merges c.args.self.now.pass.id v c.args.taker.pass.id w (ap (λ u. u.gives) c.args.self.now.gives) (ap (λ u. u.takes) c.args.taker.takes) c.requires.next
    (subst (λ (n : ℕ). n < v.made) (sym c.requires.next) c.requires.made)
