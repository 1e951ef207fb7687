use Rattle.std.proofs.Common.{◌∙◌, List, ℕ, subst}
use Rattle.std.specs.Prelude.{OnOk}
use Rattle.sms_handset.specs.declared.event.HandsetEvent.TheVariants.{Frame}
use Rattle.sms_play.specs.Meeting.{AtHandset}
use Rattle.sms_player.specs.playing.Plays.{Represents}
use Rattle.sms_player.specs.playing.Playing.{met_as}
use Rattle.sms_player.proofs.playing.Playing.hand_down.Goals as goal

pub returns : goal.returns
returns c = λ play party act shown first same.
    subst (λ (o : List ℕ). OnOk c.at_handset.result (Represents (met_as c.args.stop c.args.event act (AtHandset party (Frame o c.args.handed.now.tag)) play) c.at_handset.new.self)) (c.of.ensures ∙ c.as_slice.ensures)
    (c.at_handset.ensures play party act shown first same)
