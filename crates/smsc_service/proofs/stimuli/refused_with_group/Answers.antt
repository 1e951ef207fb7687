use Rattle.std.proofs.Common.{◌∙◌, ap}
use Rattle.smsc_service.specs.Replies.{nothing_by}
use Rattle.smsc_service.specs.Seats.{Seats, seats_in}
use Rattle.smsc_service.specs.Serving.{followed_by}
use Rattle.smsc_service.proofs.Standing.{refused_gives, refused_seats}
use Rattle.smsc_service.proofs.stimuli.refused_with_group.Goals as goal

pub returns-in-Event-clause-outs : goal.returns-in-Event-clause-outs
returns-in-Event-clause-outs c = λ r same. refused_gives _ (seats_in c.args.seat_map.now) r c.args.stimulus.now c.failed_at.result c.in-Event.ensures.asked same c.failed_at.ensures

pub returns-in-Nothing-clause-outs : goal.returns-in-Nothing-clause-outs
returns-in-Nothing-clause-outs c = λ r same. refused_gives _ (seats_in c.args.seat_map.now) r c.args.stimulus.now c.vacancy_at.result c.in-Nothing.ensures.asked same
    (c.vacancy_at.ensures ∙ ap (λ (q : Seats). nothing_by q c.args.stimulus.now) same)

pub returns-in-Taken-clause-outs : goal.returns-in-Taken-clause-outs
returns-in-Taken-clause-outs c = λ r same. refused_gives _ (seats_in c.args.seat_map.now) r c.args.stimulus.now c.taken_at.result c.in-Taken.ensures.asked same c.taken_at.ensures

pub returns-in-Event-clause-seats : goal.returns-in-Event-clause-seats
returns-in-Event-clause-seats c = λ r same. refused_seats _ (seats_in c.args.seat_map.now) (seats_in c.follow.new.seat_map) r c.args.stimulus.now c.in-Event.ensures.asked same
    (c.follow.ensures ∙ ap (λ (q : Seats). followed_by c.args.stimulus.now q) same)

pub returns-in-Forget-clause-outs : goal.returns-in-Forget-clause-outs
returns-in-Forget-clause-outs c = λ r same. refused_gives _ (seats_in c.args.seat_map.now) r c.args.stimulus.now c.failed_at-in-Forget.result c.in-Forget.ensures.asked same c.failed_at-in-Forget.ensures

pub returns-in-Forget-clause-seats : goal.returns-in-Forget-clause-seats
returns-in-Forget-clause-seats c = λ r same. refused_seats _ (seats_in c.args.seat_map.now) (seats_in c.args.seat_map.now) r c.args.stimulus.now c.in-Forget.ensures.asked same same

pub returns-in-Enrol-clause-outs : goal.returns-in-Enrol-clause-outs
returns-in-Enrol-clause-outs c = λ r same. refused_gives _ (seats_in c.args.seat_map.now) r c.args.stimulus.now c.failed_at-in-Enrol.result c.in-Enrol.ensures.asked same c.failed_at-in-Enrol.ensures

pub returns-in-Enrol-clause-seats : goal.returns-in-Enrol-clause-seats
returns-in-Enrol-clause-seats c = λ r same. refused_seats _ (seats_in c.args.seat_map.now) (seats_in c.args.seat_map.now) r c.args.stimulus.now c.in-Enrol.ensures.asked same same

pub returns-in-Nothing-clause-seats : goal.returns-in-Nothing-clause-seats
returns-in-Nothing-clause-seats c = λ r same. refused_seats _ (seats_in c.args.seat_map.now) (seats_in c.args.seat_map.now) r c.args.stimulus.now c.in-Nothing.ensures.asked same same

pub returns-in-Taken-clause-seats : goal.returns-in-Taken-clause-seats
returns-in-Taken-clause-seats c = λ r same. refused_seats _ (seats_in c.args.seat_map.now) (seats_in c.args.seat_map.now) r c.args.stimulus.now c.in-Taken.ensures.asked same same
