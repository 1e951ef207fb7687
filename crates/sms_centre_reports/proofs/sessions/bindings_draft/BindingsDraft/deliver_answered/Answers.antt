use Rattle.std.proofs.Common.{sym, ◌∙◌}
use Rattle.sms_centre_reports.proofs.sessions.Ending.{answers_so}
use Rattle.sms_centre_reports.proofs.sessions.bindings_draft.BindingsDraft.deliver_answered.Goals as goal

pub returns-clause-reports : goal.returns-clause-reports
returns-clause-reports c = λ ms t tells awaited.
    answers_so ms t c.args.self.now.sessions awaited c.args.session c.in-Some.seat.now c.in-Some.ensures c.end_receipt.new.self c.args.id c.args.now c.args.is_accepted c.account.result.now c.account.ensures (sym c.awaits.ensures ∙ c.if-not-awaits.false)
    (λ here. c.in_ok-end_receipt.ensures ms t tells here)
