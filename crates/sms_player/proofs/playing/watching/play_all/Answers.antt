use Rattle.sms_play.specs.judging.Premises.{or_first}
use Rattle.sms_player.proofs.playing.LookingOn.{all_looked, next_looked, none_looked}
use Rattle.sms_player.proofs.playing.Turning.{all_played, next_played, none_played, stops_there}
use Rattle.sms_player.proofs.playing.watching.play_all.Goals as goal

pub loop-place-init : goal.loop-place-init
loop-place-init g c = (
  λ play shown. none_played c.args.events.now play c.args.playing.now shown,
  λ play broken shown seen. none_looked (g.W.Watcher.has_seen c.args.watcher.now) c.args.events.now play broken c.args.playing.now shown seen,
)

pub loop-place-preserved : goal.loop-place-preserved
loop-place-preserved g c = (
  λ play shown.
      let a = c.loop-place.invariant.0 play shown in
      next_played c.args.events.now play c.loop-place.place c.loop-place.playing a c.one.new.playing c.index-events-place.result c.loop-place-test.true c.index-events-place.is (c.in-Ok.ensures.leads a.now a.represents),
  λ play broken shown seen.
      let a = c.loop-place.invariant.1 play broken shown seen in
      next_looked (g.W.Watcher.has_seen c.loop-place.watcher) (g.W.Watcher.has_seen c.one.new.watcher) c.args.events.now play broken c.loop-place.place c.loop-place.playing a c.one.new.playing c.index-events-place.result c.loop-place-test.true c.index-events-place.is
      (c.in-Ok.ensures.seen a.now (or_first broken a.found) a.represents a.was_seen),
)

pub returns-in-Err-clause-leads : goal.returns-in-Err-clause-leads
returns-in-Err-clause-leads g c = λ play shown.
    let a = c.loop-place.invariant.0 play shown in
    stops_there c.args.events.now play c.loop-place.place c.loop-place.playing a c.one.new.playing c.index-events-place.result c.in-Err.fault c.loop-place-test.true c.index-events-place.is (c.in-Err.ensures.leads a.now a.represents)

pub returns-clause-leads : goal.returns-clause-leads
returns-clause-leads g c = λ play shown. all_played c.args.events.now play c.loop-place.place c.loop-place.playing (c.loop-place.invariant.0 play shown) c.loop-place-test.false

pub returns-clause-seen : goal.returns-clause-seen
returns-clause-seen g c = λ play broken shown seen.
    all_looked (g.W.Watcher.has_seen c.loop-place.watcher) c.args.events.now play broken c.loop-place.place c.loop-place.playing (c.loop-place.invariant.1 play broken shown seen) c.loop-place-test.false
