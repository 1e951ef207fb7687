use Rattle.sms_centre.proofs.forgetting.plan_forget.Goals as goal

pub returns-clause-plan : goal.returns-clause-plan
returns-clause-plan g c = λ core stands. c.plan_begun.ensures.plan core (c.in_ok-draft.ensures.represented core stands) stands

pub returns-clause-archived : goal.returns-clause-archived
returns-clause-archived g c = λ core stands. c.plan_begun.ensures.archived core (c.in_ok-draft.ensures.represented core stands) stands
