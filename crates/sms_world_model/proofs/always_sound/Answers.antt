use Rattle.sms_world_model.specs.World.{empty}
use Rattle.sms_world_model.specs.WorldStep.{end}
use Rattle.sms_world_model.proofs.Runs.{sound_run, sound_empty, held_differ}
use Rattle.sms_world_model.proofs.Frames.{numbered_run, frames_differ}
use Rattle.sms_world_model.proofs.Places.{placed_run, placed_empty, joined_ended}
use Rattle.sms_world_model.proofs.always_sound.Goals as goal

pub returns-clause-receipts : goal.returns-clause-receipts
returns-clause-receipts c items run = (sound_run empty items sound_empty run).receipt

pub returns-clause-held : goal.returns-clause-held
returns-clause-held c items run = held_differ (end empty items) (sound_run empty items sound_empty run)

pub returns-clause-holders : goal.returns-clause-holders
returns-clause-holders c items run = (sound_run empty items sound_empty run).single

pub returns-clause-given : goal.returns-clause-given
returns-clause-given c items run = (sound_run empty items sound_empty run).given

pub returns-clause-frames : goal.returns-clause-frames
returns-clause-frames c items run = frames_differ (end empty items) (numbered_run empty items tt)

pub returns-clause-joined : goal.returns-clause-joined
returns-clause-joined c items run = joined_ended (end empty items) (placed_run empty items placed_empty run)
