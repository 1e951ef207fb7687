use Rattle.std.proofs.Common.{refl, sym}
use Rattle.std.specs.Str.{chars}
use Rattle.sms_handset.specs.declared.event.HandsetEvent.TheVariants.{Write as WriteEvent}
use Rattle.sms_play.specs.Meeting.{AtHandset}
use Rattle.sms_player.specs.playing.Playing.{acted, met_as}
use Rattle.sms_player.proofs.playing.Outcomes.{at_side, no_side, or_none}
use Rattle.sms_script.specs.declared.event.Act.TheVariants.{Write}
use Rattle.sms_player.proofs.playing.Playing.written.Goals as goal

pub returns-in_default : goal.returns-in_default
returns-in_default c = λ play shown.
    no_side c.args.stop c.args.event (Write c.args.handset.now c.args.to.now c.args.report c.args.text.now) (WriteEvent (chars c.args.text.now) c.args.to.now c.args.report) c.args.handset.now play refl c.args.self.now c.args.self.now.parties shown.parties (sym c.in_default.ensures.place)

pub returns : goal.returns
returns c = λ play shown.
    let act = Write c.args.handset.now c.args.to.now c.args.report c.args.text.now in
    let found = at_side c.args.stop c.args.event act (WriteEvent (chars c.args.text.now) c.args.to.now c.args.report) c.args.handset.now play refl c.in-Some.place c.args.self.now.parties shown.parties (sym c.in-Some.ensures.place) in
    or_none c.write.result c.or_no_memory.result c.args.event c.write.new.self (met_as c.args.stop c.args.event act (AtHandset found.0 (WriteEvent (chars c.args.text.now) c.args.to.now c.args.report)) play) (acted c.args.stop c.args.event act play)
    c.or_no_memory.ensures found.1.1 (c.write.ensures play found.0 act shown found.1.0 refl)
