use Rattle.smpp_session.proofs.Writable.{answer_writable}
use Rattle.smpp_session.proofs.answer.Answer.write.Goals as goal

pub write-requires : goal.write-requires
write-requires c = answer_writable c.into_body-body.result c.args.self c.number.result c.args.sequence_number c.into_body-body.ensures c.requires
