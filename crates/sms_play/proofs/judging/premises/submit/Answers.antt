use Rattle.std.proofs.Common.{◌∙◌, List, [], subst}
use Rattle.sms_centre_rows.specs.messages.Messages.{part_at}
use Rattle.sms_world_model.specs.World.{Allocation}
use Rattle.sms_play.specs.judging.Watching.{Watches}
use Rattle.sms_play.proofs.judging.Looking.{down_one, fresh_one, no_octets, no_place, offers_it, own_allocation, own_pair, some_octets}
use Rattle.sms_play.proofs.judging.Rounding.{begins_any, rounds_stay}
use Rattle.sms_play.proofs.judging.premises.submit.Goals as goal

pub returns-in_ok-may-in-Some-clause-begins : goal.returns-in_ok-may-in-Some-clause-begins
returns-in_ok-may-in-Some-clause-begins g c = λ play given down accepted represents w.
    let parts = play.centre.rows.parts in
    let tpdu = c.in-Some.tpdu.now in
    let octets = some_octets (part_at c.in-Part.id c.in-Part.part parts) tpdu (c.in-Some.ensures play represents) in
    c.in_ok-may-in-Some.ensures.begins given down accepted w ∙ fresh_one parts c.args.row.now c.in-Part.id c.in-Part.part c.in-Part.is down accepted tpdu octets

pub returns-in_ok-may-in-Some-clause-watch : goal.returns-in_ok-may-in-Some-clause-watch
returns-in_ok-may-in-Some-clause-watch g c = λ play given down accepted represents w.
    let parts = play.centre.rows.parts in
    let tpdu = c.in-Some.tpdu.now in
    let octets = some_octets (part_at c.in-Part.id c.in-Part.part parts) tpdu (c.in-Some.ensures play represents) in
    subst (λ (z : List Allocation). Watches given z accepted c.submit.new.self) (down_one parts c.args.row.now c.in-Part.id c.in-Part.part c.in-Part.is down accepted tpdu octets)
    (c.in_ok-may-in-Some.ensures.put given down accepted (own_allocation parts c.args.row.now c.in-Part.id c.in-Part.part c.in-Part.is down accepted tpdu octets) w
    (offers_it parts c.args.row.now c.in-Part.id c.in-Part.part c.in-Part.is down accepted tpdu octets))

pub returns-in-None-clause-begins : goal.returns-in-None-clause-begins
returns-in-None-clause-begins g c = λ play given down accepted represents w.
    let parts = play.centre.rows.parts in
    let octets = no_octets (part_at c.in-Part.id c.in-Part.part parts) (c.in-None.ensures play represents) in
    begins_any (own_pair parts c.args.row.now c.in-Part.id c.in-Part.part c.in-Part.is down accepted [] octets) no_place down accepted
    ∙ fresh_one parts c.args.row.now c.in-Part.id c.in-Part.part c.in-Part.is down accepted [] octets

pub returns-in-None-clause-watch : goal.returns-in-None-clause-watch
returns-in-None-clause-watch g c = λ play given down accepted represents w.
    let parts = play.centre.rows.parts in
    let octets = no_octets (part_at c.in-Part.id c.in-Part.part parts) (c.in-None.ensures play represents) in
    let own = own_allocation parts c.args.row.now c.in-Part.id c.in-Part.part c.in-Part.is down accepted [] octets in
    subst (λ (z : List Allocation). Watches given z accepted c.args.watch.now) (down_one parts c.args.row.now c.in-Part.id c.in-Part.part c.in-Part.is down accepted [] octets)
    (record {
      holders = w.holders;
      rounds = rounds_stay (own_pair parts c.args.row.now c.in-Part.id c.in-Part.part c.in-Part.is down accepted [] octets) no_place c.args.watch.now.rounds.entries own down
          (offers_it parts c.args.row.now c.in-Part.id c.in-Part.part c.in-Part.is down accepted [] octets) w.rounds;
      pairs = w.pairs;
    })
