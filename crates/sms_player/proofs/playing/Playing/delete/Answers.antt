use Rattle.std.proofs.Common.{List, ℕ, arith, refl, sym, subst}
use Rattle.std.specs.Prelude.{OnOk}
use Rattle.sms_handset.specs.declared.event.HandsetEvent.TheVariants.{Delete as DeleteEvent}
use Rattle.sms_play.specs.Meeting.{AtHandset}
use Rattle.sms_player.specs.playing.Plays.{Represents}
use Rattle.sms_player.specs.playing.Playing.{met_as}
use Rattle.sms_play.specs.PlayState.{Party}
use Rattle.sms_player.specs.playing.Places.{IsFirstAt}
use Rattle.sms_player.proofs.playing.Playing.delete.Goals as goal

pub returns-in-Ok : goal.returns-in-Ok
returns-in-Ok c = λ play party act shown first same.
    subst (λ (n : ℕ). OnOk c.at_handset.result (Represents (met_as c.args.stop c.args.event act (AtHandset party (DeleteEvent n)) play) c.at_handset.new.self)) c.in-Ok.ensures.1 (c.at_handset.ensures play party act shown first same)

pub returns-in-Err : goal.returns-in-Err
returns-in-Err c = λ play party act shown first same.
    c.no_entry.ensures play party act (DeleteEvent c.args.entry) shown first same refl
    (c.numbers_its_entries.ensures.delete party (subst (λ (ps : List Party). IsFirstAt c.args.place party ps) (sym shown.parties) first) c.args.entry (omega (arith, c.in-Err.ensures)))
