use Rattle.sms_centre_group.proofs.Joining.{spans_more}
use Rattle.sms_centre_group.specs.Grouping.{held_in}
use Rattle.sms_centre_group.proofs.group_keep.GroupKeep.hold.Goals as goal

pub returns-clause-rows : goal.returns-clause-rows
returns-clause-rows g c base rows spans = (spans.0, spans_more (held_in c.args.self.now) c.args.changes _ base rows c.hold.ensures spans.1)
