use Rattle.sms_handset_rows.proofs.inbox.FindingGroups.{takes_next}
use Rattle.sms_handset_rows.proofs.inbox.open_groups.OpenGroups.of.Goals as goal

pub loop-entry-preserved : goal.loop-entry-preserved
loop-entry-preserved c =
    takes_next c.loop-entry.entry-index c.args.entries.now c.entry-item.result c.loop-entry.groups c.take.new.self c.loop-entry-test.true c.entry-item.is c.requires
    c.in_ok-take.ensures c.loop-entry.invariant
