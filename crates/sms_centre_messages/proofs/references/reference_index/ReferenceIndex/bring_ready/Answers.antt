use Rattle.sms_centre_messages.proofs.references.reference_index.ReferenceIndex.bring_ready.Goals as goal

pub returns-in-Ok-clause-room : goal.returns-in-Ok-clause-room
returns-in-Ok-clause-room c = λ n room. c.in-Ok.ensures.room 0 n room
