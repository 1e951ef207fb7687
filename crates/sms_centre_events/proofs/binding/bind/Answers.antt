use Rattle.std.proofs.Common.{Option, OnOk, sym, subst}
use Rattle.sms_intake.specs.declared.submission.CentreAccount.{CentreAccount}
use Rattle.sms_centre_spec.specs.Sessions.{bound_as, unbind}
use Rattle.sms_centre_draft.specs.CentreDraft.{Represents}
use Rattle.sms_centre_events.proofs.Places.{account_there, no_account}
use Rattle.sms_centre_events.proofs.binding.bind.Goals as goal

pub returns-in-Some : goal.returns-in-Some
returns-in-Some c = λ d represents awaited.
    subst (λ (o : Option CentreAccount). OnOk c.bind_to.result (Represents (bound_as c.args.session c.args.receives o (unbind c.args.session d)) c.bind_to.new.draft))
    (sym (account_there c.args.account d c.args.draft.now c.account_of.result c.in-Some.account represents c.account_of.ensures c.in-Some.is))
    (c.bind_to.ensures d represents awaited)

pub returns-in-None : goal.returns-in-None
returns-in-None c = λ d represents awaited.
    subst (λ (o : Option CentreAccount). OnOk c.unbind.result (Represents (bound_as c.args.session c.args.receives o (unbind c.args.session d)) c.unbind.new.self))
    (sym (no_account c.args.account d c.args.draft.now c.account_of.result represents c.account_of.ensures c.in-None.is))
    (c.unbind.ensures d represents awaited)
