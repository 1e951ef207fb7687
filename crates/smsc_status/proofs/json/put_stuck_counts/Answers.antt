use Rattle.smsc_status.specs.Json.{stuck_counts}
use Rattle.smsc_status.proofs.json.put_stuck_counts.Goals as goal

pub returns : goal.returns
unfolding stuck_counts
returns c = rw (c.as_bytes.ensures.value, c.truth.ensures) at c.put_pieces.ensures
