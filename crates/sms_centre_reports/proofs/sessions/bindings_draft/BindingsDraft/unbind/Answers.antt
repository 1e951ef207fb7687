use Rattle.sms_centre_reports.proofs.sessions.Ending.{removed_so, unbinds_so}
use Rattle.sms_centre_reports.proofs.sessions.bindings_draft.BindingsDraft.unbind.Goals as goal

pub returns-clause-bindings : goal.returns-clause-bindings
returns-clause-bindings c = removed_so c.args.session c.in-Some.seat.now c.args.self.now c.remove.new.self c.in-Some.ensures c.remove.ensures

pub returns-clause-reports : goal.returns-clause-reports
returns-clause-reports c = λ ms t tells awaited.
    unbinds_so ms t c.args.self.now.sessions awaited c.args.session c.in-Some.seat.now c.in-Some.ensures c.put_off_receipts.new.self c.args.now c.account.result.now c.unanswered.result.now c.account.ensures c.unanswered.ensures
    (λ here. c.in_ok-put_off_receipts.ensures ms t tells here)
