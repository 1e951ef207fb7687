use Rattle.sms_relay_run.proofs.relay_laws.Frames.{behind_there, none_there}
use Rattle.sms_relay_run.proofs.relay_laws.sent.unit_at.Goals as goal

pub returns-then-place-frames : goal.returns-then-place-frames
returns-then-place-frames c = none_there c.args.place c.args.frames.now c.if-place-frames.true

pub returns : goal.returns
returns c = behind_there c.args.place c.args.frames.now c.index-frames-place.result c.as_slice.result.now c.unit_behind.result c.if-place-frames.false c.index-frames-place.is c.as_slice.ensures c.unit_behind.ensures
