use Rattle.std.proofs.Common.{◌∙◌, List, ℕ, sym, subst}
use Rattle.std.specs.Prelude.{OnOk}
use Rattle.sms_centre_spec.specs.declared.event.CentreEvent.TheVariants.{Frame}
use Rattle.sms_play.specs.PlayState.{Party}
use Rattle.sms_play.specs.Meeting.{AtCentre}
use Rattle.sms_player.specs.playing.Plays.{Represents}
use Rattle.sms_player.specs.playing.Places.{IsFirstAt}
use Rattle.sms_player.specs.playing.Playing.{met_as}
use Rattle.sms_base.specs.Reading.{AreOctets}
use Rattle.sms_centre_rows.specs.waiting.SoundAllocations.{IsNumber}
use Rattle.sms_player.proofs.playing.Playing.hand_up.Goals as goal

pub returns-clause-represents : goal.returns-clause-represents
returns-clause-represents c = λ play party act shown first same.
    let stands = subst (λ (ps : List Party). IsFirstAt c.args.place party ps) (sym shown.parties) first in
    let named = subst (λ (n : List ℕ). OnOk c.at_centre.result (Represents (met_as c.args.stop c.args.event act (AtCentre (Frame n c.of.result c.args.handed.now.tag)) play) c.at_centre.new.self)) (c.number_at-handset.ensures party stands) (c.at_centre.ensures play act shown same) in
    subst (λ (o : List ℕ). OnOk c.at_centre.result (Represents (met_as c.args.stop c.args.event act (AtCentre (Frame party.number o c.args.handed.now.tag)) play) c.at_centre.new.self)) (c.of.ensures ∙ c.as_slice.ensures) named

pub returns-clause-event : goal.returns-clause-event
returns-clause-event c = λ party first. (
  subst (λ (n : List ℕ). IsNumber n) (c.number_at-handset.ensures party first) c.is_event.ensures.0,
  subst (λ (o : List ℕ). AreOctets o) (c.of.ensures ∙ c.as_slice.ensures) c.is_event.ensures.1,
)
