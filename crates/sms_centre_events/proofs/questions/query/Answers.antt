use Rattle.std.proofs.Common.{Option, sym, subst, OnOk}
use Rattle.sms_intake.specs.declared.submission.CentreAccount.{CentreAccount}
use Rattle.sms_centre_spec.specs.Requests.{query_by}
use Rattle.sms_centre_draft.specs.CentreDraft.{Represents}
use Rattle.sms_centre_events.proofs.Places.{account_there, no_account}
use Rattle.sms_centre_events.proofs.questions.query.Goals as goal

pub returns-in-Some : goal.returns-in-Some
returns-in-Some c = λ d represents.
    subst (λ (o : Option CentreAccount). OnOk c.query_by.result (Represents (query_by o c.args.query.now d) c.query_by.new.draft))
    (sym (account_there c.args.account d c.args.draft.now c.account_of.result c.in-Some.account represents c.account_of.ensures c.in-Some.is))
    (c.query_by.ensures d represents)

pub returns-in-None : goal.returns-in-None
returns-in-None c = λ d represents.
    subst (λ (o : Option CentreAccount). Represents (query_by o c.args.query.now d) c.refuse.new.draft)
    (sym (no_account c.args.account d c.args.draft.now c.account_of.result represents c.account_of.ensures c.in-None.is))
    (c.refuse.ensures d represents)
