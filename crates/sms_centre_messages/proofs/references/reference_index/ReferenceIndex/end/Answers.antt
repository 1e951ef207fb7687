use Rattle.sms_centre_messages.proofs.references.Ending.{holds_after_end}
use Rattle.sms_centre_messages.proofs.references.reference_index.ReferenceIndex.end.Goals as goal

pub returns-clause-holds : goal.returns-clause-holds
returns-clause-holds c = λ bs ms ps m moment h rises there open' same.
    holds_after_end c.args.row.now m c.args.state moment c.args.self.now c.count_out.new.self bs ms ps c.count_out.ensures.ended h rises there open' same
