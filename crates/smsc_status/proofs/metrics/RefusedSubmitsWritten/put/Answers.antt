use Rattle.smsc_status.specs.Metrics.{submits_sample}
use Rattle.smsc_status.proofs.metrics.RefusedSubmitsWritten.put.Goals as goal

pub returns : goal.returns
unfolding submits_sample
returns c = rw c.as_bytes.ensures.value at c.put_pieces.ensures
