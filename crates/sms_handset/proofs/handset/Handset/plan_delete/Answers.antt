use Rattle.sms_handset.proofs.GroupStages.{delete_then}
use Rattle.sms_handset.proofs.handset.Handset.plan_delete.Goals as goal

pub planned-requires-clause-groups : goal.planned-requires-clause-groups
planned-requires-clause-groups c =
    (delete_then c.args.entry c.args.self.now.core c.in_ok-draft.draft c.delete_and_follow.new.draft c.in_ok-draft.ensures c.in-Ok.ensures).0

pub planned-requires-clause-rests : goal.planned-requires-clause-rests
planned-requires-clause-rests c =
    (delete_then c.args.entry c.args.self.now.core c.in_ok-draft.draft c.delete_and_follow.new.draft c.in_ok-draft.ensures c.in-Ok.ensures).1
