use Rattle.sms_base.proofs.Msisdns.{is_number}
use Rattle.sms_centre_draft.proofs.RepresentedMoves.{told_number}
use Rattle.sms_centre_draft.proofs.centre_draft.CentreDraft.make_status.Goals as goal

pub returns-in-None : goal.returns-in-None
returns-in-None c = λ d n represents can is.
    absurd (c.in-None.ensures (is_number c.args.message.now.source.digits (told_number c.args.state c.args.message.now n d c.args.self.now represents can is)))
