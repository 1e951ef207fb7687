use Rattle.std.proofs.Common.{refl, sym}
use Rattle.sms_handset.specs.declared.event.HandsetEvent.TheVariants.{Tick as TickEvent}
use Rattle.sms_play.specs.Meeting.{AtHandset}
use Rattle.sms_player.specs.playing.Playing.{acted, met_as}
use Rattle.sms_player.proofs.playing.Outcomes.{at_side, no_side, or_none}
use Rattle.sms_script.specs.declared.event.Act.TheVariants.{Tick}
use Rattle.sms_script.specs.declared.event.EventSide.TheVariants.{Handset}
use Rattle.sms_player.proofs.playing.Playing.handset_ticked.Goals as goal

pub returns-in_default : goal.returns-in_default
returns-in_default c = λ play shown.
    no_side c.args.stop c.args.event (Tick (Handset c.args.number.now) c.args.now) (TickEvent c.args.now) c.args.number.now play refl c.args.self.now c.args.self.now.parties shown.parties (sym c.in_default.ensures.place)

pub returns : goal.returns
returns c = λ play shown.
    let act = Tick (Handset c.args.number.now) c.args.now in
    let found = at_side c.args.stop c.args.event act (TickEvent c.args.now) c.args.number.now play refl c.in-Some.place c.args.self.now.parties shown.parties (sym c.in-Some.ensures.place) in
    or_none c.at_handset.result c.or_no_memory.result c.args.event c.at_handset.new.self (met_as c.args.stop c.args.event act (AtHandset found.0 (TickEvent c.args.now)) play) (acted c.args.stop c.args.event act play)
    c.or_no_memory.ensures found.1.1 (c.at_handset.ensures play found.0 act shown found.1.0 refl)
