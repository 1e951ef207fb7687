use Rattle.sms_world_model.specs.World.{empty}
use Rattle.sms_world_model.specs.WorldStep.{end}
use Rattle.sms_world_model.proofs.Runs.{sound_run, sound_empty}
use Rattle.sms_world_model.proofs.Faithful.{faithful_run, faithful_empty, delivered_accepted, no_part_twice}
use Rattle.sms_world_model.proofs.Ends.{end_reported}
use Rattle.sms_world_model.proofs.delivered_was_accepted.Goals as goal

pub returns-clause-delivered : goal.returns-clause-delivered
returns-clause-delivered c items run timely = delivered_accepted (end empty items) (faithful_run empty items sound_empty faithful_empty run timely)

pub returns-clause-once : goal.returns-clause-once
returns-clause-once c items run timely =
    no_part_twice (end empty items) (sound_run empty items sound_empty run) (faithful_run empty items sound_empty faithful_empty run timely)

pub returns-clause-reported : goal.returns-clause-reported
returns-clause-reported c items run timely = end_reported items run timely
