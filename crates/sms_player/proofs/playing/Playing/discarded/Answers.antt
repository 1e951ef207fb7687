use Rattle.std.proofs.Common.{refl, sym}
use Rattle.sms_handset.specs.declared.event.HandsetEvent.TheVariants.{Discard as DiscardEvent}
use Rattle.sms_play.specs.Meeting.{AtHandset}
use Rattle.sms_player.specs.playing.Playing.{acted, met_as}
use Rattle.sms_player.proofs.playing.Outcomes.{at_side, no_side, or_none}
use Rattle.sms_script.specs.declared.event.Act.TheVariants.{Discard}
use Rattle.sms_player.proofs.playing.Playing.discarded.Goals as goal

pub returns-in_default : goal.returns-in_default
returns-in_default c = λ play shown.
    no_side c.args.stop c.args.event (Discard c.args.handset.now c.args.entry) (DiscardEvent c.args.entry) c.args.handset.now play refl c.args.self.now c.args.self.now.parties shown.parties (sym c.in_default.ensures.place)

pub returns : goal.returns
returns c = λ play shown.
    let act = Discard c.args.handset.now c.args.entry in
    let found = at_side c.args.stop c.args.event act (DiscardEvent c.args.entry) c.args.handset.now play refl c.in-Some.place c.args.self.now.parties shown.parties (sym c.in-Some.ensures.place) in
    or_none c.discard.result c.or_no_memory.result c.args.event c.discard.new.self (met_as c.args.stop c.args.event act (AtHandset found.0 (DiscardEvent c.args.entry)) play) (acted c.args.stop c.args.event act play)
    c.or_no_memory.ensures found.1.1 (c.discard.ensures play found.0 act shown found.1.0 refl)
