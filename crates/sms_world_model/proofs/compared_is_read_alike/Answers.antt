use Rattle.sms_world_model.proofs.Alike.{place_alike, carried_alike, deliver_alike, report_alike}
use Rattle.sms_world_model.proofs.compared_is_read_alike.Goals as goal

pub returns-clause-place : goal.returns-clause-place
returns-clause-place c = place_alike

pub returns-clause-content : goal.returns-clause-content
returns-clause-content c = carried_alike

pub returns-clause-deliver : goal.returns-clause-deliver
returns-clause-deliver c = deliver_alike

pub returns-clause-report : goal.returns-clause-report
returns-clause-report c = report_alike
