use Rattle.sms_play.specs.judging.Premises.{or_first, untimely}
use Rattle.sms_play.specs.PlayedEvent.{played}
use Rattle.sms_player.proofs.playing.LookingOn.{looks_on}
use Rattle.sms_player.proofs.playing.Turning.{looked_at}
use Rattle.sms_player.proofs.playing.watching.play_one.Goals as goal

pub returns-in-Ok-clause-leads : goal.returns-in-Ok-clause-leads
returns-in-Ok-clause-leads g c = λ play shown. looked_at c.after.result c.or_no_memory.result c.args.number c.play.new.self (played c.args.number c.args.event.now play) c.or_no_memory.ensures (c.in-Ok.ensures.leads play shown)

pub returns-in-Ok-clause-seen : goal.returns-in-Ok-clause-seen
returns-in-Ok-clause-seen g c = λ play broken shown seen.
    let number = c.args.number in
    let event = c.args.event.now in
    let led = c.in-Ok.ensures.leads play shown in
    let sound = c.a_state_meets_what_events_require.ensures.sound play.centre c.args.playing.now.centre.centre shown.centre.centre in
    let goes = c.an_event_extends_the_play.ensures number event play led.0 sound (c.in-Ok.ensures.fit play shown) led.1.0 in
    looks_on c.after.result c.or_no_memory.result (g.W.Watcher.has_seen c.after.new.self) c.play.new.self broken number event play led.0 c.or_no_memory.ensures led.1.0 led.1.1
    (c.after.ensures (or_first broken (untimely number event play)) play led.0 led.1.1 goes seen)
