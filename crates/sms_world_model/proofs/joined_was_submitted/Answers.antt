use Rattle.sms_world_model.proofs.Ends.{end_rounds, end_joined, end_splits, end_contents}
use Rattle.sms_world_model.proofs.joined_was_submitted.Goals as goal

pub returns-clause-once : goal.returns-clause-once
returns-clause-once c items run timely = end_rounds items run timely

pub returns-clause-joined : goal.returns-clause-joined
returns-clause-joined c items run timely fresh = end_joined items run timely fresh

pub returns-clause-split : goal.returns-clause-split
returns-clause-split c items run timely fresh = end_splits items run timely fresh

pub returns-clause-content : goal.returns-clause-content
returns-clause-content c items run timely fresh = end_contents items run timely fresh
