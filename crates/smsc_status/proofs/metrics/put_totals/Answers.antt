use Rattle.smsc_status.specs.Metrics.{totals}
use Rattle.smsc_status.proofs.metrics.put_totals.Goals as goal

pub returns : goal.returns
unfolding totals
returns c = rw c.count-count.ensures at c.put_pieces.ensures
