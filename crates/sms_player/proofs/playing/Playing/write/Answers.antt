use Rattle.std.proofs.Common.{◌≡◌, ◌∙◌, ap, List, ℕ, sym, subst, true}
use Rattle.std.specs.Prelude.{OnOk}
use Rattle.std.specs.Str.{chars, is_utf8}
use Rattle.sms_handset.specs.declared.event.HandsetEvent.TheVariants.{Write as WriteEvent}
use Rattle.sms_play.specs.Meeting.{AtHandset}
use Rattle.sms_player.specs.playing.Plays.{Represents}
use Rattle.sms_player.specs.playing.Playing.{met_as}
use Rattle.sms_player.proofs.playing.Playing.write.Goals as goal

pub text_in-requires : goal.text_in-requires
text_in-requires c = subst (λ (l : List ℕ). is_utf8 l ≡ true) (sym c.in_ok-octets.ensures.text) c.in_ok-octets.ensures.utf8

pub returns : goal.returns
returns c = λ play party act shown first same.
    let text : c.text_in.result.now ≡ c.args.text.now = c.text_in.ensures ∙ c.in_ok-octets.ensures.text in
    let to : chars c.as_str.result.now ≡ c.args.to.now = ap chars c.as_str.ensures.value ∙ c.in_ok-to.ensures in
    subst (λ (t : List ℕ). OnOk c.write_text.result (Represents (met_as c.args.stop c.args.event act (AtHandset party (WriteEvent (chars c.args.text.now) t c.args.report)) play) c.write_text.new.self)) to
    (subst (λ (t : List ℕ). OnOk c.write_text.result (Represents (met_as c.args.stop c.args.event act (AtHandset party (WriteEvent (chars t) (chars c.as_str.result.now) c.args.report)) play) c.write_text.new.self)) text
    (c.write_text.ensures play party act shown first same))
