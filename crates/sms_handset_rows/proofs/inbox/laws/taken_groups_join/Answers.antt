use Rattle.sms_handset_rows.proofs.inbox.TakenGroups.{all_join}
use Rattle.sms_handset_rows.proofs.inbox.laws.taken_groups_join.Goals as goal

pub returns : goal.returns
returns c = all_join
