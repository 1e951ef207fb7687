use Rattle.sms_centre_messages.proofs.references.Entering.{holds_entered}
use Rattle.sms_centre_messages.proofs.references.reference_index.ReferenceIndex.enter.Goals as goal

pub returns-clause-holds : goal.returns-clause-holds
returns-clause-holds c = λ bs ms ps h behind few. holds_entered c.args.row.now c.args.self.now c.count_in.new.self bs ms ps c.in_ok-count_in.ensures.entered h behind few
