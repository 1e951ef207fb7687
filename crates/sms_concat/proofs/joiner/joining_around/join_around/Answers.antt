use Rattle.sms_concat.proofs.joiner.Around.{front_empty, front_some}
use Rattle.sms_concat.proofs.joiner.joining_around.join_around.Goals as goal

pub join_from-requires : goal.join_from-requires
join_from-requires c = front_empty c.args.before.now c.args.part.now c.args.after.now c.in-empty.len_below

pub join_from-requires-in-len1-up : goal.join_from-requires-in-len1-up
join_from-requires-in-len1-up c = front_some c.args.before.now c.args.part.now c.args.after.now c.first-item.result c.in-len1-up.len_at_least c.first-item.is
