use Rattle.sms_centre_draft.proofs.Verdicts.{submission_accepted, submission_alone, submission_congested, submission_taken}
use Rattle.sms_centre_draft.proofs.laws.a_submission_is_judged_by_the_rows.Goals as goal

pub returns-clause-accepted : goal.returns-clause-accepted
returns-clause-accepted c = submission_accepted

pub returns-clause-taken : goal.returns-clause-taken
returns-clause-taken c = submission_taken

pub returns-clause-congested : goal.returns-clause-congested
returns-clause-congested c = submission_congested

pub returns-clause-alone : goal.returns-clause-alone
returns-clause-alone c = submission_alone
