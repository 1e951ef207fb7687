use Rattle.sms_centre_draft.proofs.Verdicts.{submit_confirmed, submit_refused}
use Rattle.sms_centre_draft.proofs.laws.a_submit_is_judged_by_the_rows.Goals as goal

pub returns-clause-accepted : goal.returns-clause-accepted
returns-clause-accepted c = submit_confirmed

pub returns-clause-refused : goal.returns-clause-refused
returns-clause-refused c = submit_refused
