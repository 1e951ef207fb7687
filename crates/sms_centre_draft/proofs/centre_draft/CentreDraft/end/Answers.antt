use Rattle.sms_centre_rows.specs.messages.Messages.{ended}
use Rattle.sms_centre_spec.specs.Draft.{in_store, with_message}
use Rattle.sms_centre_spec.proofs.StagesConsistent.{can_report}
use Rattle.sms_centre_draft.proofs.RepresentedMoves.{can_tell}
use Rattle.sms_centre_draft.proofs.centre_draft.CentreDraft.end.Goals as goal

pub returns : goal.returns
returns c = λ d represents there pending.
    let m = c.args.message.now in
    c.report.ensures (in_store (with_message (ended c.args.state d.store.moment m) d.store) d) (c.in_ok-put_ended.ensures d represents there pending)
    (can_tell c.args.state m d.store (can_report c.args.state m d.store represents.consistent there pending))
