use Rattle.std.proofs.Common.{◌∙◌, ap, List, ℕ, refl, sym, subst}
use Rattle.sms_centre_spec.specs.declared.event.CentreEvent.TheVariants.{Tick as CentreTick}
use Rattle.sms_play.specs.growth.Growth.{IsCentreEvent}
use Rattle.sms_play.specs.Meeting.{AtCentre, meeting_of}
use Rattle.sms_player.specs.playing.Playing.{LeadsTo, acted, met_as}
use Rattle.sms_player.proofs.playing.Fitting.{handset_ticks}
use Rattle.sms_player.proofs.playing.Outcomes.{or_none}
use Rattle.sms_script.specs.declared.event.Act.TheVariants.{Tick}
use Rattle.sms_script.specs.declared.event.EventSide.{EventSide}
use Rattle.sms_script.specs.declared.event.EventSide.TheVariants.{Centre, Handset}
use Rattle.sms_player.proofs.playing.Playing.ticked.Goals as goal

pub returns-in-Centre-clause-leads : goal.returns-in-Centre-clause-leads
returns-in-Centre-clause-leads c = λ play shown.
    or_none c.at_centre.result c.or_no_memory.result c.args.event c.at_centre.new.self (met_as c.args.stop c.args.event (Tick Centre c.args.now) (AtCentre (CentreTick c.args.now)) play) (acted c.args.stop c.args.event (Tick c.args.side.now c.args.now) play)
    c.or_no_memory.ensures (ap (λ (s : EventSide). acted c.args.stop c.args.event (Tick s c.args.now) play) c.in-Centre.is) (c.at_centre.ensures play (Tick Centre c.args.now) shown refl)

pub returns-in-Handset-clause-leads : goal.returns-in-Handset-clause-leads
returns-in-Handset-clause-leads c = λ play shown.
    subst (λ (s : EventSide). LeadsTo c.handset_ticked.result c.handset_ticked.new.self (acted c.args.stop c.args.event (Tick s c.args.now) play))
    (ap (λ (number : List ℕ). Handset number) c.as_slice.ensures ∙ sym c.in-Handset.is) (c.handset_ticked.ensures play shown)

pub returns-in-Centre-clause-fit : goal.returns-in-Centre-clause-fit
returns-in-Centre-clause-fit c = λ play. subst (λ (s : EventSide). IsCentreEvent (meeting_of c.args.event (Tick s c.args.now) play)) (sym c.in-Centre.is) c.is_event.ensures

pub returns-in-Handset-clause-fit : goal.returns-in-Handset-clause-fit
returns-in-Handset-clause-fit c = λ play. handset_ticks c.args.event c.args.now c.args.side.now _ play c.in-Handset.is
