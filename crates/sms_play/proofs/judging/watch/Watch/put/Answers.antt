use Rattle.std.proofs.Common.{refl, ap, subst}
use Rattle.sms_play.specs.judging.Watching.{IsPut, pair_in}
use Rattle.sms_world_model.specs.declared.round_key.Place.{Place}
use Rattle.sms_world_model.specs.declared.round_key.RoundKey.{RoundKey}
use Rattle.sms_play.specs.declared.judging.watch.Member.{Member}
use Rattle.sms_play.proofs.judging.Rounding.{rounds_put}
use Rattle.sms_play.proofs.judging.watch.Watch.put.Goals as goal

pub returns : goal.returns
returns c = λ given down accepted p g w at placed offers.
    let m : Member = record { number = c.args.place.now.number; pair = c.args.pair } in
    record {
      holders = w.holders;
      rounds = rounds_put (pair_in c.args.pair) p at m c.args.self.now.rounds.entries c.put_member.new.rounds.entries g down offers w.rounds
          (subst (λ (k : RoundKey). IsPut k m c.args.self.now.rounds.entries c.put_member.new.rounds.entries) (ap (λ (z : Place). z.key) placed) c.in_ok-put_member.ensures) refl
          (ap (λ (z : Place). z.number) placed);
      pairs = w.pairs;
    }
