use Rattle.std.proofs.Common.{◌≡◌, ◌∙◌, List, ap, subst}
use Rattle.std.specs.Prelude.{IfOk}
use Rattle.sms_centre_spec.specs.CentreEvent.{happened}
use Rattle.sms_centre_spec.specs.Draft.{messages_in}
use Rattle.sms_centre_spec.specs.declared.jobs.reply.Reply.{Reply}
use Rattle.sms_keeper.specs.declared.outs.Out.{Out}
use Rattle.sms_centre.specs.declared.plans.event_outcome.Outputs.{Outputs as OutputsOf}
use Rattle.smsc_service.specs.Seats.{seats_in}
use Rattle.smsc_service.specs.Replies.{asker, risen_by, seat_answer}
use Rattle.smsc_service.proofs.RepliesOfPlans.{told_is, told_where}
use Rattle.smsc_service.proofs.stimuli.planned_outs.Goals as goal

pub returns : goal.returns
returns c = λ event s centre_state seats plan.
    subst (λ (l : List (Out Reply)). IfOk c.reply_outs.result (λ outs. outs.items ≡ l))
    (told_is event s.core c.args.planned.now.plan plan c.risen_by.result c.asker_of.result (seats_in c.args.seat_map.now).links c.args.stimulus.now c.seat_answer-answer.result
    (c.seat_answer-answer.ensures ∙ ap (λ (o : OutputsOf). seat_answer c.args.stimulus.now o.answer) c.outputs.ensures)
    ∙ told_where c.risen_by.result (risen_by c.args.stimulus.now) c.asker_of.result (asker c.args.stimulus.now) (seats_in c.args.seat_map.now) s.seats (seat_answer c.args.stimulus.now (happened event s.core).answer) (happened event s.core).links.frames (messages_in (happened event s.core).store) (happened event s.core).bindings.deliveries c.risen_by.ensures c.asker_of.ensures seats)
    (c.reply_outs.ensures s.core centre_state)
