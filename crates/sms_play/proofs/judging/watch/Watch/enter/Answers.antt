use Rattle.std.proofs.Common.{◌∙◌, ap}
use Rattle.sms_world_model.specs.RoundKeys.{round_key}
use Rattle.sms_play.specs.judging.Watching.{begins_in, pair_in, round_at}
use Rattle.sms_world_model.specs.declared.round_key.Place.{Place}
use Rattle.sms_play.proofs.judging.Rounding.{begins_as}
use Rattle.sms_play.proofs.judging.watch.Watch.enter.Goals as goal

pub returns-clause-begins : goal.returns-clause-begins
returns-clause-begins c = λ given down accepted p w at placed.
    let rounds = w.rounds c.args.pair.handset.digits p.key in
    c.may_begin-may.ensures
    ∙ ap (λ (z : Place). begins_in z (round_at z.key c.args.self.now.rounds.entries) c.args.self.now.accepted.entries) placed
    ∙ begins_as (pair_in c.args.pair) p at (round_at (round_key c.args.pair.handset.digits p.key) c.args.self.now.rounds.entries) c.args.self.now.accepted.entries down accepted rounds.1 w.pairs rounds.0
