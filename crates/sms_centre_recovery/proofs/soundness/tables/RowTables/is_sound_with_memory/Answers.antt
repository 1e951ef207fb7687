use Rattle.sms_centre_recovery.specs.soundness.RowsOf.{rows_of}
use Rattle.sms_centre_recovery.proofs.soundness.Together.{beside_decides}
use Rattle.sms_centre_recovery.proofs.soundness.tables.RowTables.is_sound_with_memory.Goals as goal

pub returns : goal.returns
returns c alone =
    beside_decides (rows_of c.args.self.now) c.in_ok-allocations.allocations c.in_ok-reports.reports c.in_ok-splits.splits c.in_ok-waiting.waiting
    c.both.result c.both-2.result c.both-3.result c.in_ok-allocations.ensures c.in_ok-reports.ensures c.in_ok-splits.ensures c.in_ok-waiting.ensures
    c.both.ensures c.both-2.ensures c.both-3.ensures alone
