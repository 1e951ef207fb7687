use Rattle.sms_centre_spec.specs.Draft.{in_store}
use Rattle.sms_centre_spec.specs.Receiving.{due_now}
use Rattle.sms_centre_draft.proofs.centre_draft.CentreDraft.has_memory.Goals as goal

pub returns : goal.returns
returns c = λ d represents. c.empty.ensures (in_store (due_now c.args.handset d.store) d) (c.in_ok-due_now.ensures d represents)
