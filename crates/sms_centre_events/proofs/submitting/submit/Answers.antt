-- submit
use Rattle.std.proofs.Common.{Option, OnOk, sym, subst}
use Rattle.sms_intake.specs.declared.submission.CentreAccount.{CentreAccount}
use Rattle.sms_centre_spec.specs.Requests.{submit_by}
use Rattle.sms_centre_draft.specs.CentreDraft.{Represents}
use Rattle.sms_centre_events.proofs.Places.{account_address, account_there, no_account}
use Rattle.sms_centre_events.proofs.submitting.submit.Goals as goal

pub submit_by-requires : goal.submit_by-requires
submit_by-requires c = record { address = account_address c.args.account c.args.draft.now c.account_of.result c.in-Some.account c.requires.setup c.account_of.ensures c.in-Some.is }

pub returns-in-Some : goal.returns-in-Some
returns-in-Some c = λ d represents knows.
    subst (λ (o : Option CentreAccount). OnOk c.submit_by.result (Represents (submit_by o c.args.message.now d) c.submit_by.new.draft))
    (sym (account_there c.args.account d c.args.draft.now c.account_of.result c.in-Some.account represents c.account_of.ensures c.in-Some.is))
    (c.submit_by.ensures d represents knows)

pub returns-in-None : goal.returns-in-None
returns-in-None c = λ d represents knows.
    subst (λ (o : Option CentreAccount). Represents (submit_by o c.args.message.now d) c.refuse.new.draft)
    (sym (no_account c.args.account d c.args.draft.now c.account_of.result represents c.account_of.ensures c.in-None.is))
    (c.refuse.ensures d represents)
